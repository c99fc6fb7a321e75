use Rattle.std.proofs.Common.{sym, subst, ap, ◌∙◌, ◌∷◌, ◌++◌}
use Rattle.doorbell_irq.specs.Events.{RegisterWritten}
use Rattle.doorbell_irq.specs.DeviceRules.{effect_of}
use Rattle.doorbell_irq.specs.Refinement.{Refines}
use Rattle.ivshm_device.specs.Windows.{page_events, page_effect}
use Rattle.ivshm_device.proofs.window.write_page.Goals as goal

pub returns-then-width-eq4-clause-refines : goal.returns-then-width-eq4-clause-refines
returns-then-width-eq4-clause-refines c w events refines =
    subst (λ width. Refines w (page_events c.args.peer c.args.offset width c.args.value ++ events) c.register_write.new.self) (sym c.if-width-eq4.true)
    (subst (λ v. Refines w (RegisterWritten c.args.peer c.args.offset v ∷ events) c.register_write.new.self) c.low_word.ensures (c.register_write.ensures.refines w events refines))

pub returns-then-width-eq4-clause-effect : goal.returns-then-width-eq4-clause-effect
returns-then-width-eq4-clause-effect c w events refines =
    c.register_write.ensures.effect w events refines ∙ ap (λ v. effect_of w events (RegisterWritten c.args.peer c.args.offset v)) c.low_word.ensures
    ∙ ap (λ width. page_effect w events c.args.peer c.args.offset width c.args.value) (sym c.if-width-eq4.true)
