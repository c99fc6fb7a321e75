use Rattle.std.proofs.Common.{sym, ap, ◌∙◌}
use Rattle.doorbell_irq.specs.DeviceRules.{bytes_after}
use Rattle.ivshm_device.specs.Windows.{read_at}
use Rattle.ivshm_device.proofs.window.read_window.Goals as goal

pub returns-in-ConfigSpace : goal.returns-in-ConfigSpace
returns-in-ConfigSpace c w events refines =
    c.read_config.ensures w events refines ∙ ap (λ window. read_at w.wiring (bytes_after w events c.args.peer) window c.args.offset c.args.width) (sym c.in-ConfigSpace.is)

pub returns-in-RegisterPage : goal.returns-in-RegisterPage
returns-in-RegisterPage c w events refines =
    c.read_page.ensures w events refines ∙ ap (λ window. read_at w.wiring (bytes_after w events c.args.peer) window c.args.offset c.args.width) (sym c.in-RegisterPage.is)

pub returns-in-MsixRegion : goal.returns-in-MsixRegion
returns-in-MsixRegion c w events refines =
    c.read_msix.ensures w events refines ∙ ap (λ window. read_at w.wiring (bytes_after w events c.args.peer) window c.args.offset c.args.width) (sym c.in-MsixRegion.is)
