use Rattle.weak_orders.proofs.Buffered.{store_buffer_runs_are_weak}
use Rattle.weak_orders.proofs.store_buffer_runs_are_weak.Goals as goal

pub returns : goal.returns
returns c = store_buffer_runs_are_weak
