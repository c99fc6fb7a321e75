use Rattle.std.proofs.Common.{sym, subst}
use Rattle.doorbell_irq.specs.Refinement.{Refines}
use Rattle.doorbell_irq.proofs.device.Device.register_read.Goals as goal

pub returns : goal.returns
returns c w events refines = c.register_read.ensures w events (subst (Refines w events) (sym c.self.view_is) refines)
