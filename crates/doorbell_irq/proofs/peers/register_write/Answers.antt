use Rattle.std.proofs.Common.{◌≡◌, ℕ, List, ◌<◌, Some, refl, ◌∙◌, ap, ap₂, arith}
use Rattle.std.specs.Prelude.{Bool, true, false, ◌==◌, if◌then◌else◌, Option, None}
use Rattle.std.specs.Bool.{then_some}
use Rattle.doorbell_irq.specs.DeviceView.{DeviceView, IsDeviceView}
use Rattle.doorbell_irq.specs.Refinement.{Refines, among}
use Rattle.doorbell_irq.specs.Events.{RegisterWritten}
use Rattle.doorbell_irq.specs.DeviceRules.{register_vector}
use Rattle.doorbell_irq.proofs.EventKinds.{register_spares, register_written}
use Rattle.doorbell_irq.specs.declared.effect.Delivery.{Delivery}
use Rattle.doorbell_irq.proofs.RegistersOfPeer.{state_same}
use Rattle.doorbell_irq.proofs.Devices.{peer_at, led, came}
use Rattle.doorbell_irq.proofs.Lists.{slice_get-set_other}
use Rattle.doorbell_irq.proofs.peers.register_write.Goals as goal

-- A value under a test.
then_some-if : (b : Bool) (x : ℕ) → then_some b x ≡ (if b then Some x else None)
then_some-if true x = refl
then_some-if false x = refl

pub returns-clause-effect : goal.returns-clause-effect
returns-clause-effect g c w events refines =
    let d : DeviceView = among c.args.peers c.args.wiring c.args.registers.now in
    let sound : IsDeviceView d = c.requires.sound in
    let was : Refines w events d = refines in
    let below : c.args.peer < d.peers = c.requires.inside in
    let is = peer_at w events d sound was c.args.peer c.index-registers-peer.result below in
    ap₂ (λ (state : Option ℕ) (items : List Delivery). record { state = state; deliveries = record { items = items } })
    (c.then_some.ensures ∙ then_some-if (c.args.offset == 0x10) c.args.value)
    (c.deliver.ensures.came
    ∙ came w events (RegisterWritten c.args.peer c.args.offset c.args.value) d sound was c.args.peer below (register_spares w events c.args.peer c.args.offset c.args.value)
    c.write_register-trigger.new.self c.write_register-trigger.result
    (register_written w events c.args.peer _ c.write_register-trigger.new.self is c.args.offset c.args.value c.write_register-trigger.ensures.written)
    (λ peer. c.write_register-trigger.ensures.triggers peer ∙ ap (λ state. register_vector state c.args.peer c.args.offset c.args.value peer) (state_same w events c.args.peer _ is)))

pub returns-clause-refines : goal.returns-clause-refines
returns-clause-refines g c w events refines =
    let d : DeviceView = among c.args.peers c.args.wiring c.args.registers.now in
    let sound : IsDeviceView d = c.requires.sound in
    let was : Refines w events d = refines in
    let below : c.args.peer < d.peers = c.requires.inside in
    let is = peer_at w events d sound was c.args.peer c.index-registers-peer.result below in
    led w events (RegisterWritten c.args.peer c.args.offset c.args.value) d sound was c.args.peer below (register_spares w events c.args.peer c.args.offset c.args.value)
    c.write_register-trigger.new.self c.write_register-trigger.result
    (register_written w events c.args.peer _ c.write_register-trigger.new.self is c.args.offset c.args.value c.write_register-trigger.ensures.written)
    (λ peer. c.write_register-trigger.ensures.triggers peer ∙ ap (λ state. register_vector state c.args.peer c.args.offset c.args.value peer) (state_same w events c.args.peer _ is))
    _ refl refl c.deliver.auto.registers c.deliver.ensures.takes

pub returns-clause-past : goal.returns-clause-past
returns-clause-past g c place past =
    c.deliver.ensures.past place past
    ∙ slice_get-set_other c.args.registers.now c.args.peer place c.write_register-trigger.new.self (λ same. omega (arith, same, past, c.requires.inside))
