use Rattle.std.proofs.Common.{sym, subst}
use Rattle.doorbell_irq.specs.Refinement.{Refines}
use Rattle.doorbell_irq.proofs.device.Device.config_write.Goals as goal

pub returns-clause-written : goal.returns-clause-written
returns-clause-written c w events refines = c.config_write.ensures.written w events (subst (Refines w events) (sym c.self.view_is) refines)
