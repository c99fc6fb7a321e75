use Rattle.std.proofs.Common.{◌≡◌, ℕ, Some, None, ◌+◌, ◌≤◌, ◌++◌, ◌∙◌, length, refl, sym, ap, arith}
use Rattle.std.specs.Prelude.{Bool, true, false, not, ◌==◌, if◌then◌else◌}
use Rattle.std.specs.Bool.{then_some}
use Rattle.std.proofs.lemmas.List.{append-nil}
use Rattle.arrayvec.specs.ArrayVec.{ArrayVec, array_vec_len}
use Rattle.doorbell_irq.specs.declared.effect.Delivery.{Delivery}
use Rattle.doorbell_irq.specs.DeviceRules.{delivery_to}
use Rattle.doorbell_irq.specs.declared.trigger.Trigger.TheVariants.{Others}
use Rattle.doorbell_irq.specs.Triggers.{vector_at}
use Rattle.doorbell_irq.proofs.NextPeer.{taken_more, left_more, came_more}
use Rattle.doorbell_irq.proofs.trigger.deliver_to_others.Goals as goal
use Rattle.doorbell_irq.proofs.trigger.deliver_to_others.Goals.{in-Some, in_default}

put : (g : _) (c : goal.Joined-taken g) → c.match-taken.deliveries.items ≡ c.loop-peer.deliveries.items ++ delivery_to c.loop-peer.peer c.take-taken.result
put g c = elim c.match-taken.branch [
  | in-Some w ↦ ap (λ (v : ArrayVec Delivery). v.items) w.deliveries-is ∙ w.push.ensures.items
      ∙ sym (ap (λ r. c.loop-peer.deliveries.items ++ delivery_to c.loop-peer.peer r) w.in-Some.is)
  | in_default w ↦ ap (λ (v : ArrayVec Delivery). v.items) w.deliveries-is ∙ sym (append-nil c.loop-peer.deliveries.items)
      ∙ sym (ap (λ r. c.loop-peer.deliveries.items ++ delivery_to c.loop-peer.peer r) w.in_default.is)
]

few : (g : _) (c : goal.Joined-taken g) → array_vec_len c.match-taken.deliveries ≤ c.loop-peer.peer + 1
few g c = elim c.match-taken.branch [
  | in-Some w ↦ omega (arith, ap array_vec_len w.deliveries-is, w.push.ensures.len, c.loop-peer.invariant.few)
  | in_default w ↦ omega (arith, ap array_vec_len w.deliveries-is, c.loop-peer.invariant.few)
]

-- The source takes nothing, and any other peer takes vector 0.
others : (source peer : ℕ) → then_some {T = ℕ} (not (source == peer)) 0 ≡ vector_at (Others source) peer
others source peer = either (source == peer) where
  either : (b : Bool) → then_some {T = ℕ} (not b) 0 ≡ (if b then None else Some 0)
  either true = refl
  either false = refl

pub loop-peer-preserved : goal.loop-peer-preserved
loop-peer-preserved g c =
    let source = c.args.source in
    let vector = c.then_some-vector.ensures ∙ others source c.loop-peer.peer in
    record {
      few = few g c;
      came = came_more c.args.wiring (Others source) c.args.registers.now c.loop-peer.registers c.loop-peer.peer c.index-registers-peer.result (omega arith)
          c.loop-peer.invariant.left c.then_some-vector.result c.take-taken.result c.loop-peer.deliveries.items c.match-taken.deliveries.items
          vector c.take-taken.ensures.gives c.loop-peer.invariant.came (put g c);
      done = taken_more c.args.wiring (Others source) c.args.registers.now c.loop-peer.registers c.loop-peer.peer c.index-registers-peer.result (omega arith)
          c.loop-peer.invariant.left c.then_some-vector.result c.take-taken.new.self vector c.take-taken.ensures.takes c.loop-peer.invariant.done;
      left = left_more c.args.wiring (Others source) c.args.registers.now c.loop-peer.registers c.loop-peer.peer c.index-registers-peer.result (omega arith)
          c.loop-peer.invariant.left c.take-taken.new.self;
    }

pub loop-peer-init : goal.loop-peer-init
loop-peer-init g c = record {
  few = omega (arith, ap length c.new-deliveries.ensures);
  came = c.new-deliveries.ensures;
  done = λ peer before after less. absurd (omega arith);
  left = λ peer le. refl;
}

pub returns-clause-takes : goal.returns-clause-takes
returns-clause-takes g c peer before after less = c.loop-peer.invariant.done peer before after (omega arith)

pub returns-clause-past : goal.returns-clause-past
returns-clause-past g c place past = c.loop-peer.invariant.left place (omega arith)
