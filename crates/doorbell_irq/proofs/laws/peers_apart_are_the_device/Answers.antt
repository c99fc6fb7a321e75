use Rattle.std.proofs.Common.{sym, ◌∙◌, ap}
use Rattle.doorbell_irq.specs.Events.{RegisterWritten}
use Rattle.doorbell_irq.specs.DeviceRules.{register_vector, delivery_by, is_connected, bytes_after}
use Rattle.doorbell_irq.proofs.RegistersOfPeer.{state_same, delivery_same}
use Rattle.doorbell_irq.proofs.Steps.{peer_taken}
use Rattle.doorbell_irq.proofs.EventKinds.{register_spares}
use Rattle.doorbell_irq.proofs.laws.peers_apart_are_the_device.Goals as goal

pub returns : goal.returns
returns c w events source peer offset value own before after other is was taken =
    let spares = register_spares w events source offset value peer other in
    let same_vector = ap (λ state. register_vector state source offset value peer) (state_same w events source own is) in (
      peer_taken w events peer (RegisterWritten source offset value) _ before after spares.registers (spares.connection (is_connected events peer))
          (sym same_vector) spares.writes was taken,
      delivery_same w events peer before was w.wiring was.count _
          ∙ ap (delivery_by w.wiring (is_connected events peer) (bytes_after w events peer)) same_vector,
    )
