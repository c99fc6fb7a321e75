use Rattle.doorbell_irq.proofs.PlainRules.{state_written, state_reset}
use Rattle.doorbell_irq.proofs.laws.state_is_what_was_written.Goals as goal

pub returns : goal.returns
returns c = record { written = state_written; reset = state_reset }
