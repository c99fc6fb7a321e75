use Rattle.std.proofs.Common.{◌<◌, ◌∙◌}
use Rattle.doorbell_irq.specs.DeviceView.{DeviceView}
use Rattle.doorbell_irq.specs.Refinement.{Refines, among}
use Rattle.doorbell_irq.proofs.RegistersOfPeer.{register_same}
use Rattle.doorbell_irq.proofs.Devices.{peer_read}
use Rattle.doorbell_irq.proofs.peers.register_read.Goals as goal

pub returns : goal.returns
returns g c w events refines =
    let d : DeviceView = among c.args.peers c.args.wiring c.args.registers.now in
    let was : Refines w events d = refines in
    let below : c.args.peer < d.peers = c.requires.inside in
    c.read_register.ensures
    ∙ register_same w events c.args.peer _ (peer_read w events d was c.args.peer _ below c.index-registers-peer.is) c.args.offset
