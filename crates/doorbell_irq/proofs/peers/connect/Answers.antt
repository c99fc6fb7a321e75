use Rattle.std.proofs.Common.{◌<◌, refl, arith}
use Rattle.doorbell_irq.specs.DeviceView.{DeviceView, IsDeviceView}
use Rattle.doorbell_irq.specs.Refinement.{Refines, among}
use Rattle.doorbell_irq.specs.Events.{WasConnected}
use Rattle.doorbell_irq.proofs.Devices.{peer_at, moved}
use Rattle.doorbell_irq.proofs.EventKinds.{connect_spares, was_connected}
use Rattle.doorbell_irq.proofs.Lists.{slice_get-set_other}
use Rattle.doorbell_irq.proofs.peers.connect.Goals as goal

pub returns-clause-refines : goal.returns-clause-refines
returns-clause-refines g c w events refines =
    let d : DeviceView = among c.args.peers c.args.wiring c.args.registers.now in
    let sound : IsDeviceView d = c.requires.sound in
    let was : Refines w events d = refines in
    let below : c.args.peer < d.peers = c.requires.inside in
    moved w events (WasConnected c.args.peer) d sound was c.args.peer below (connect_spares w events c.args.peer)
    _ c.connect.new.self refl refl refl (λ peer. refl)
    (was_connected w events c.args.peer _ c.connect.new.self (peer_at w events d sound was c.args.peer c.index-registers-peer.result below) c.connect.ensures)

pub returns-clause-past : goal.returns-clause-past
returns-clause-past g c place past =
    slice_get-set_other c.args.registers.now c.args.peer place c.connect.new.self (λ same. omega (arith, same, past, c.requires.inside))
