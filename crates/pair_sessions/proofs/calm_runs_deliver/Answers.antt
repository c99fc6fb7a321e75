use Rattle.pair_sessions.proofs.CalmRuns.{calm_runs_deliver}
use Rattle.pair_sessions.proofs.calm_runs_deliver.Goals as goal

pub returns : goal.returns
returns c = calm_runs_deliver
