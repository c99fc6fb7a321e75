use Rattle.history_laws.proofs.MadeCalls.{calls_end_within_bounds}
use Rattle.history_laws.proofs.calls_end_within_bounds.Goals as goal

pub returns : goal.returns
returns c = calls_end_within_bounds
