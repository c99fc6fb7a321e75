use Rattle.std.proofs.Common.{◌≡◌, ◌<◌, ◌∙◌}
use Rattle.std.proofs.lemmas.Result.{IfOk-weaker}
use Rattle.pci_space.specs.Numbers.{number_from}
use Rattle.doorbell_irq.specs.DeviceView.{DeviceView}
use Rattle.doorbell_irq.specs.Refinement.{Refines, among}
use Rattle.doorbell_irq.specs.Events.{Config}
use Rattle.doorbell_irq.specs.DeviceRules.{bytes_after}
use Rattle.doorbell_irq.proofs.RegistersOfPeer.{number_from-same}
use Rattle.doorbell_irq.proofs.Devices.{peer_read}
use Rattle.doorbell_irq.proofs.peers.config_read.Goals as goal

pub returns-clause-value : goal.returns-clause-value
returns-clause-value g c w events refines =
    let d : DeviceView = among c.args.peers c.args.wiring c.args.registers.now in
    let was : Refines w events d = refines in
    let below : c.args.peer < d.peers = c.requires.inside in
    let is = peer_read w events d was c.args.peer _ below c.index-registers-peer.is in
    IfOk-weaker c.read_config.result
    _
    (λ v. v ≡ number_from (bytes_after w events c.args.peer Config) c.args.offset c.args.width)
    (λ v value. value ∙ number_from-same _ (bytes_after w events c.args.peer Config) c.args.offset c.args.width is.config.bytes)
    c.read_config.ensures.value
