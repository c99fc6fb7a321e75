use Rattle.std.proofs.Common.{sym, subst}
use Rattle.doorbell_irq.specs.Refinement.{Refines}
use Rattle.doorbell_irq.proofs.device.Device.connect.Goals as goal

pub returns-clause-refines : goal.returns-clause-refines
returns-clause-refines c w events refines = c.connect.ensures.refines w events (subst (Refines w events) (sym c.self.view_is) refines)
