use Rattle.std.proofs.Common.{◌≡◌, ℕ, ◌<◌, ◌≤◌, Some}
use Rattle.std.specs.Prelude.{slice_get}
use Rattle.arrayvec.specs.ArrayVec.{array_vec_len}
use Rattle.doorbell_irq.specs.Peer.{Registers}
use Rattle.doorbell_irq.specs.DeviceRules.{deliveries_below}
use Rattle.doorbell_irq.specs.Registers.{Takes}
use Rattle.doorbell_irq.specs.declared.trigger.Trigger.TheVariants.{Others}
use Rattle.doorbell_irq.specs.Triggers.{vector_at, delivery_among}
use Rattle.doorbell_irq.proofs.trigger.deliver_to_others.Given as goal

abbrev pub invariant-loop-peer : goal.invariant-loop-peer
invariant-loop-peer g l = record {
  few : array_vec_len l.deliveries ≤ l.peer;
  came : l.deliveries.items ≡ deliveries_below (delivery_among l.wiring (Others l.source) l.initial.registers) l.peer;
  done : (peer : ℕ) (before after : Registers) → peer < l.peer → slice_get l.initial.registers peer ≡ Some before → slice_get l.registers peer ≡ Some after →
      Takes l.wiring (vector_at (Others l.source) peer) before after;
  left : (peer : ℕ) → l.peer ≤ peer → slice_get l.registers peer ≡ slice_get l.initial.registers peer;
}
