use Rattle.link_machine.proofs.DeliversInOrder.{machine}
use Rattle.link_machine.proofs.machine_delivers.Goals as goal

pub returns : goal.returns
returns c = machine
