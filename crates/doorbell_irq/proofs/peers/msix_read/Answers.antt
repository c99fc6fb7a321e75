use Rattle.std.proofs.Common.{◌<◌, ◌≤◌, length, ◌∙◌, ap, sym, subst}
use Rattle.doorbell_irq.specs.DeviceView.{DeviceView}
use Rattle.doorbell_irq.specs.Refinement.{Refines, among}
use Rattle.doorbell_irq.specs.Events.{vector_count}
use Rattle.doorbell_irq.specs.DeviceRules.{bytes_after, msix_at}
use Rattle.doorbell_irq.proofs.RegistersOfPeer.{msix_same}
use Rattle.doorbell_irq.proofs.Devices.{peer_read}
use Rattle.doorbell_irq.proofs.peers.msix_read.Goals as goal

pub returns : goal.returns
returns g c w events refines =
    let d : DeviceView = among c.args.peers c.args.wiring c.args.registers.now in
    let was : Refines w events d = refines in
    let below : c.args.peer < d.peers = c.requires.inside in
    let is = peer_read w events d was c.args.peer _ below c.index-registers-peer.is in
    c.read_entry.ensures
    ∙ msix_same w events c.args.peer _ is d.wiring (subst (λ wiring. vector_count wiring ≤ length c.index-registers-peer.result.entries) (sym was.wiring) is.count) c.args.offset
    ∙ ap (λ wiring. msix_at wiring (bytes_after w events c.args.peer) c.args.offset) was.wiring
