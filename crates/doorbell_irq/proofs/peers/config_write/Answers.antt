use Rattle.std.proofs.Common.{◌<◌, refl, arith}
use Rattle.std.proofs.lemmas.Result.{on_ok_weaker}
use Rattle.doorbell_irq.specs.DeviceView.{DeviceView, IsDeviceView}
use Rattle.doorbell_irq.specs.Refinement.{Refines, among}
use Rattle.doorbell_irq.specs.Events.{ConfigWritten}
use Rattle.doorbell_irq.proofs.Devices.{peer_at, moved}
use Rattle.doorbell_irq.proofs.EventKinds.{config_spares, config_written}
use Rattle.doorbell_irq.proofs.Lists.{slice_get-set_other}
use Rattle.doorbell_irq.proofs.peers.config_write.Goals as goal

pub returns-clause-written : goal.returns-clause-written
returns-clause-written g c w events refines =
    let d : DeviceView = among c.args.peers c.args.wiring c.args.registers.now in
    let sound : IsDeviceView d = c.requires.sound in
    let was : Refines w events d = refines in
    let below : c.args.peer < d.peers = c.requires.inside in
    on_ok_weaker c.write_config.result
    (λ written. moved w events (ConfigWritten c.args.peer c.args.offset c.args.width c.args.value) d sound was c.args.peer below
    (config_spares w events c.args.peer c.args.offset c.args.width c.args.value)
    _ c.write_config.new.self refl refl refl (λ peer. refl)
    (config_written w events c.args.peer _ c.write_config.new.self
    (peer_at w events d sound was c.args.peer c.index-registers-peer.result below) c.args.offset c.args.width c.args.value written))
    c.write_config.ensures.written

pub returns-clause-past : goal.returns-clause-past
returns-clause-past g c place past =
    slice_get-set_other c.args.registers.now c.args.peer place c.write_config.new.self (λ same. omega (arith, same, past, c.requires.inside))
