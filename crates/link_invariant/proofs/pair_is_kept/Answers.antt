use Rattle.link_invariant.proofs.PairKept.{pair_kept}
use Rattle.link_invariant.proofs.pair_is_kept.Goals as goal

pub returns : goal.returns
returns c = pair_kept
