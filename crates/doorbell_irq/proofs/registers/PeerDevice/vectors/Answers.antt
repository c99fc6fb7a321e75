use Rattle.std.proofs.Common.{ℕ, ◌∙◌, sym, ap, arith}
use Rattle.std.specs.Prelude.{Bool}
use Rattle.doorbell_irq.specs.DeviceRules.{bit}
use Rattle.doorbell_irq.specs.Registers.{register_bytes}
use Rattle.doorbell_irq.specs.Routes.{would_be_delivered}
use Rattle.doorbell_irq.proofs.RouteBits.{bit_set, bit_left}
use Rattle.doorbell_irq.proofs.registers.PeerDevice.vectors.Goals as goal
use Rattle.doorbell_irq.proofs.registers.PeerDevice.vectors.Goals.{then-would_take, else-would_take}

pub loop-vector-preserved : goal.loop-vector-preserved
loop-vector-preserved g c =
    let come : ℕ → Bool = would_be_delivered c.args.wiring c.args.self.now.connected (register_bytes c.args.self.now) in
    elim c.if-would_take.branch [
      | then-would_take w ↦ λ n. ap (λ v. bit v n) w.vectors-is
          ∙ bit_set c.loop-vector.vectors c.loop-vector.vector come c.loop-vector.invariant (omega arith) (sym c.would_take.ensures ∙ w.if-would_take.true) n
      | else-would_take w ↦ λ n. ap (λ v. bit v n) w.vectors-is
          ∙ bit_left c.loop-vector.vectors c.loop-vector.vector come c.loop-vector.invariant (sym c.would_take.ensures ∙ w.if-would_take.false) n
    ]
