use Rattle.link_invariant.proofs.RunsKept.{runs_deliver}
use Rattle.link_invariant.proofs.honest_runs_deliver.Goals as goal

pub returns : goal.returns
returns c = runs_deliver
