use Rattle.std.proofs.Common.{sym, subst}
use Rattle.doorbell_irq.specs.Refinement.{Refines}
use Rattle.doorbell_irq.proofs.device.Device.reset.Goals as goal

pub returns-clause-effect : goal.returns-clause-effect
returns-clause-effect c w events refines = c.reset.ensures.effect w events (subst (Refines w events) (sym c.self.view_is) refines)

pub returns-clause-refines : goal.returns-clause-refines
returns-clause-refines c w events refines = c.reset.ensures.refines w events (subst (Refines w events) (sym c.self.view_is) refines)
