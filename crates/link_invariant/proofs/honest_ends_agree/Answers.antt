use Rattle.link_invariant.proofs.LinkInvariantKept.{agree}
use Rattle.link_invariant.proofs.honest_ends_agree.Goals as goal

pub returns : goal.returns
returns c = agree
