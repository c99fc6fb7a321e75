use Rattle.std.proofs.Common.{sym, subst}
use Rattle.doorbell_irq.specs.Refinement.{Refines}
use Rattle.doorbell_irq.proofs.device.Device.config_read.Goals as goal

pub returns-clause-value : goal.returns-clause-value
returns-clause-value c w events refines = c.config_read.ensures.value w events (subst (Refines w events) (sym c.self.view_is) refines)
