use Rattle.doorbell_irq.proofs.PlainRules.{turned_off}
use Rattle.doorbell_irq.proofs.laws.one_shot_turns_interrupts_off.Goals as goal

pub returns : goal.returns
returns c = turned_off
