use Rattle.link_invariant.proofs.EndInvariantKept.{alone_kept}
use Rattle.link_invariant.proofs.end_invariant_is_kept.Goals as goal

pub returns : goal.returns
returns c = alone_kept
