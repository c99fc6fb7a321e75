use Rattle.std.proofs.Common.{List, ◌<◌, Some, refl, inr, ◌∙◌, ap, ap₂, arith}
use Rattle.std.specs.Prelude.{Bool, true, false, ◌≡◌, ℕ, Option}
use Rattle.doorbell_irq.specs.DeviceView.{DeviceView, IsDeviceView}
use Rattle.doorbell_irq.specs.Refinement.{Refines, among}
use Rattle.doorbell_irq.specs.DeviceRules.{vector_by, reset_event, state_of}
use Rattle.doorbell_irq.proofs.EventKinds.{reset_spares, was_reset, reset_quiet, reset_triggers}
use Rattle.doorbell_irq.specs.declared.effect.Delivery.{Delivery}
use Rattle.doorbell_irq.proofs.RegistersOfPeer.{state_same}
use Rattle.doorbell_irq.proofs.Devices.{peer_at, led, came}
use Rattle.doorbell_irq.proofs.Lists.{slice_get-set_other}
use Rattle.doorbell_irq.proofs.peers.reset_by.Goals as goal

-- A reset leaves State at 0.
reset_state : (disconnects : Bool) (peer : ℕ) → Some 0 ≡ state_of (reset_event disconnects peer)
reset_state false peer = refl
reset_state true peer = refl

pub returns-clause-effect : goal.returns-clause-effect
returns-clause-effect g c w events refines =
    let d : DeviceView = among c.args.peers c.args.wiring c.args.registers.now in
    let sound : IsDeviceView d = c.requires.sound in
    let was : Refines w events d = refines in
    let below : c.args.peer < d.peers = c.requires.inside in
    let is = peer_at w events d sound was c.args.peer c.index-registers-peer.result below in
    ap₂ (λ (state : Option ℕ) (items : List Delivery). record { state = state; deliveries = record { items = items } })
    (reset_state c.args.disconnects c.args.peer)
    (c.deliver.ensures.came
    ∙ came w events (reset_event c.args.disconnects c.args.peer) d sound was c.args.peer below (reset_spares w events c.args.disconnects c.args.peer)
    c.reset-trigger.new.self c.reset-trigger.result
    (inr (was_reset w events c.args.peer _ c.reset-trigger.new.self is c.args.disconnects c.reset-trigger.ensures.reset, reset_quiet w events c.args.disconnects c.args.peer))
    (λ peer. c.reset-trigger.ensures.triggers peer ∙ ap (λ state. vector_by state c.args.peer 0 peer) (state_same w events c.args.peer _ is)
    ∙ reset_triggers w events c.args.disconnects c.args.peer peer))

pub returns-clause-refines : goal.returns-clause-refines
returns-clause-refines g c w events refines =
    let d : DeviceView = among c.args.peers c.args.wiring c.args.registers.now in
    let sound : IsDeviceView d = c.requires.sound in
    let was : Refines w events d = refines in
    let below : c.args.peer < d.peers = c.requires.inside in
    let is = peer_at w events d sound was c.args.peer c.index-registers-peer.result below in
    led w events (reset_event c.args.disconnects c.args.peer) d sound was c.args.peer below (reset_spares w events c.args.disconnects c.args.peer)
    c.reset-trigger.new.self c.reset-trigger.result
    (inr (was_reset w events c.args.peer _ c.reset-trigger.new.self is c.args.disconnects c.reset-trigger.ensures.reset, reset_quiet w events c.args.disconnects c.args.peer))
    (λ peer. c.reset-trigger.ensures.triggers peer ∙ ap (λ state. vector_by state c.args.peer 0 peer) (state_same w events c.args.peer _ is)
    ∙ reset_triggers w events c.args.disconnects c.args.peer peer)
    _ refl refl c.deliver.auto.registers c.deliver.ensures.takes

pub returns-clause-past : goal.returns-clause-past
returns-clause-past g c place past =
    c.deliver.ensures.past place past
    ∙ slice_get-set_other c.args.registers.now c.args.peer place c.reset-trigger.new.self (λ same. omega (arith, same, past, c.requires.inside))
