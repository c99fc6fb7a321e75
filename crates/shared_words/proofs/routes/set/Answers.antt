use Rattle.std.proofs.Common.{◌++◌, sym, subst}
use Rattle.scenario_text.specs.declared.acts.Act.{Act}
use Rattle.doorbell_irq.specs.Refinement.{Refines}
use Rattle.shared_words.specs.PeerRoutes.{events_in}
use Rattle.shared_words.proofs.routes.set.Goals as goal

pub returns-in-Ok-clause-refines : goal.returns-in-Ok-clause-refines
returns-in-Ok-clause-refines c = λ w events refines. subst (λ (a : Act). Refines w (events_in a ++ events) c.config_write.new.self) (sym c.in-CfgWrite.is) (c.in-Ok.ensures.written w events refines)

pub returns-in-MmioWrite-clause-refines : goal.returns-in-MmioWrite-clause-refines
returns-in-MmioWrite-clause-refines c = λ w events refines. subst (λ (a : Act). Refines w (events_in a ++ events) c.register_write.new.self) (sym c.in-MmioWrite.is) (c.register_write.ensures.refines w events refines)

pub returns-in-MsixWrite-clause-refines : goal.returns-in-MsixWrite-clause-refines
returns-in-MsixWrite-clause-refines c = λ w events refines. subst (λ (a : Act). Refines w (events_in a ++ events) c.msix_write.new.self) (sym c.in-MsixWrite.is) (c.msix_write.ensures.refines w events refines)
