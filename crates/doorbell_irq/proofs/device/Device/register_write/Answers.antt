use Rattle.std.proofs.Common.{sym, subst}
use Rattle.doorbell_irq.specs.Refinement.{Refines}
use Rattle.doorbell_irq.proofs.device.Device.register_write.Goals as goal

pub returns-clause-effect : goal.returns-clause-effect
returns-clause-effect c w events refines = c.register_write.ensures.effect w events (subst (Refines w events) (sym c.self.view_is) refines)

pub returns-clause-refines : goal.returns-clause-refines
returns-clause-refines c w events refines = c.register_write.ensures.refines w events (subst (Refines w events) (sym c.self.view_is) refines)
