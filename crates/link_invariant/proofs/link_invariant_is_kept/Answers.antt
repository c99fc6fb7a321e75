use Rattle.link_invariant.proofs.LinkInvariantKept.{whole_kept}
use Rattle.link_invariant.proofs.link_invariant_is_kept.Goals as goal

pub returns : goal.returns
returns c = whole_kept
