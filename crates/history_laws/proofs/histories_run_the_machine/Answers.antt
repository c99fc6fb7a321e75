use Rattle.history_laws.proofs.PlacesAlong.{histories_run_the_machine}
use Rattle.history_laws.proofs.histories_run_the_machine.Goals as goal

pub returns : goal.returns
returns c = histories_run_the_machine
