use Rattle.std.proofs.Common.{sym, subst}
use Rattle.doorbell_irq.specs.Refinement.{Refines}
use Rattle.doorbell_irq.proofs.device.Device.route.Goals as goal

pub returns : goal.returns
returns c w events refines = c.route.ensures w events (subst (Refines w events) (sym c.self.view_is) refines)
