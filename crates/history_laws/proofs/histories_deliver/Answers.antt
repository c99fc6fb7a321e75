use Rattle.history_laws.proofs.MachineRuns.{histories_deliver}
use Rattle.history_laws.proofs.histories_deliver.Goals as goal

pub returns : goal.returns
returns c = histories_deliver
