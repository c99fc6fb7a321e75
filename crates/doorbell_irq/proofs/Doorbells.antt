-- A doorbell by the target alone, whatever peer rings.
use Rattle.std.proofs.Common.{◌≡◌, ℕ, ◌<◌, List, ◌∷◌, length, set, Some, sym, ◌∙◌, ap, ap₂, subst, arith}
use Rattle.std.specs.Prelude.{slice_get}
use Rattle.std.proofs.lemmas.List.{set-get_or}
use Rattle.std.proofs.lemmas.Option.{get_or_from_slice_get}
use Rattle.doorbell_irq.specs.DeviceView.{DeviceView, IsDeviceView}
use Rattle.doorbell_irq.specs.Peer.{Registers}
use Rattle.doorbell_irq.specs.Events.{Devices, Event, RegisterWritten, doorbell_register, doorbell_target, doorbell_vector}
use Rattle.doorbell_irq.specs.DeviceRules.{vector_of, deliveries_below, delivery_of, is_connected, bytes_after}
use Rattle.doorbell_irq.specs.Registers.{IsPeer}
use Rattle.doorbell_irq.specs.Refinement.{Refines}
use Rattle.doorbell_irq.specs.declared.trigger.Trigger.TheVariants.{At}
use Rattle.doorbell_irq.specs.Triggers.{vector_at, delivery_among, TakesBelow}
use Rattle.doorbell_irq.proofs.Lists.{slice_get-within}
use Rattle.doorbell_irq.proofs.NoDelivery.{untouched}
use Rattle.doorbell_irq.proofs.Devices.{led, came}
use Rattle.doorbell_irq.proofs.EventKinds.{register_spares, register_written}

module _ (w : Devices) (events : List Event) (source word : ℕ) (old : DeviceView) (sound : IsDeviceView old) (refines : Refines w events old) (inside : source < old.peers)
    (target vector : ℕ) (is_target : target ≡ doorbell_target word) (is_vector : vector ≡ doorbell_vector word) where
  -- The registers of the source, which a doorbell leaves alone.
  own : (r : Registers) × (slice_get old.registers source ≡ Some r)
  own = slice_get-within old.registers source (omega (arith, refines.count, refines.peers))

  unchanged : set old.registers source own.0 ≡ old.registers
  unchanged = ap (set old.registers source) (sym (get_or_from_slice_get old.registers source own.0 own.0 own.1)) ∙ set-get_or old.registers source own.0

  own_is : IsPeer w events source own.0
  own_is = refines.registers source own.0 (omega (arith, refines.peers)) own.1

  triggered : (peer : ℕ) → vector_at (At target vector) peer ≡ vector_of (bytes_after w events) (RegisterWritten source doorbell_register word) peer
  triggered peer = ap₂ (λ (t v : ℕ). vector_at (At t v) peer) is_target is_vector

  -- The delivery.
  pub rung : deliveries_below (delivery_among old.wiring (At target vector) old.registers) old.peers
      ≡ deliveries_below (delivery_of w.wiring (is_connected events) (bytes_after w events) (RegisterWritten source doorbell_register word)) w.shape.peers
  rung = ap (λ (rs : List Registers). deliveries_below (delivery_among old.wiring (At target vector) rs) old.peers) (sym unchanged)
      ∙ came w events (RegisterWritten source doorbell_register word) old sound refines source inside (register_spares w events source doorbell_register word)
      own.0 (At target vector) (register_written w events source own.0 own.0 own_is doorbell_register word (untouched w.wiring own.0)) triggered

  -- The device after the doorbell.
  pub rung_refines : (new : DeviceView) → new.peers ≡ old.peers → new.wiring ≡ old.wiring → length new.registers ≡ length old.registers →
      TakesBelow old.peers old.wiring (At target vector) old.registers new.registers → Refines w (RegisterWritten source doorbell_register word ∷ events) new
  rung_refines new peers wiring count takes =
      led w events (RegisterWritten source doorbell_register word) old sound refines source inside (register_spares w events source doorbell_register word)
      own.0 (At target vector) (register_written w events source own.0 own.0 own_is doorbell_register word (untouched w.wiring own.0)) triggered
      new peers wiring (subst (λ (rs : List Registers). length new.registers ≡ length rs) (sym unchanged) count)
      (subst (λ (rs : List Registers). TakesBelow old.peers old.wiring (At target vector) rs new.registers) (sym unchanged) takes)
