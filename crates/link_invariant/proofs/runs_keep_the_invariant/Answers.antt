use Rattle.link_invariant.proofs.RunsKept.{runs_keep_invariant}
use Rattle.link_invariant.proofs.runs_keep_the_invariant.Goals as goal

pub returns : goal.returns
returns c = runs_keep_invariant
