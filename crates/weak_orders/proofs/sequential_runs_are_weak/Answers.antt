use Rattle.weak_orders.proofs.Sequential.{sequential_runs_are_weak}
use Rattle.weak_orders.proofs.sequential_runs_are_weak.Goals as goal

pub returns : goal.returns
returns c = sequential_runs_are_weak
