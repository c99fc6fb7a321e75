use Rattle.std.proofs.Common.{sym, subst, ap, ◌∙◌, ◌++◌}
use Rattle.doorbell_irq.specs.Refinement.{Refines}
use Rattle.ivshm_device.specs.Windows.{events_of, effect_at}
use Rattle.ivshm_device.proofs.window.write_window.Goals as goal

pub returns-in-ConfigSpace-clause-refines : goal.returns-in-ConfigSpace-clause-refines
returns-in-ConfigSpace-clause-refines c w events refines =
    subst (λ window. Refines w (events_of c.args.peer window c.args.offset c.args.width c.args.value ++ events) c.write_config.new.devices) (sym c.in-ConfigSpace.is)
    (c.write_config.ensures w events refines)

pub returns-in-RegisterPage-clause-refines : goal.returns-in-RegisterPage-clause-refines
returns-in-RegisterPage-clause-refines c w events refines =
    subst (λ window. Refines w (events_of c.args.peer window c.args.offset c.args.width c.args.value ++ events) c.write_page.new.devices) (sym c.in-RegisterPage.is)
    (c.write_page.ensures.refines w events refines)

pub returns-in-RegisterPage-clause-effect : goal.returns-in-RegisterPage-clause-effect
returns-in-RegisterPage-clause-effect c w events refines =
    c.write_page.ensures.effect w events refines ∙ ap (λ window. effect_at w events c.args.peer window c.args.offset c.args.width c.args.value) (sym c.in-RegisterPage.is)

pub returns-in-MsixRegion-clause-refines : goal.returns-in-MsixRegion-clause-refines
returns-in-MsixRegion-clause-refines c w events refines =
    subst (λ window. Refines w (events_of c.args.peer window c.args.offset c.args.width c.args.value ++ events) c.write_msix.new.devices) (sym c.in-MsixRegion.is)
    (c.write_msix.ensures w events refines)
