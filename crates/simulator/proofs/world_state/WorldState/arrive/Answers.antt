use Rattle.std.proofs.Common.{List, ◌++◌, take, rules, sym, subst, arith}
use Rattle.std.specs.Prelude.{reverse}
use Rattle.std.proofs.lemmas.List.{take_all}
use Rattle.doorbell_irq.specs.declared.effect.Delivery.{Delivery}
use Rattle.lawful_history.specs.declared.line.Line.{Line}
use Rattle.lawful_history.specs.Device.{delivery_lines}
use Rattle.simulator.specs.WorldState.{WorldStateAfter}
use Rattle.simulator.proofs.InterruptLines.{one_arrived}
use Rattle.simulator.proofs.world_state.WorldState.arrive.Goals as goal

pub loop-delivery-preserved : goal.loop-delivery-preserved
loop-delivery-preserved c = (
  λ world output past losses after.
      let l = c.loop-delivery in
      subst (λ (ls : List Line). WorldStateAfter world output ls losses c.arrive_at.new.self)
      (sym (one_arrived past losses c.args.deliveries.now l.delivery-index _ c.loop-delivery-test.true (search rules)))
      (c.in_ok-arrive_at.ensures.after world output (reverse (delivery_lines past losses (take l.delivery-index c.args.deliveries.now)) ++ past) losses (l.invariant.0 world output past losses after)),
  λ me seated. c.in_ok-arrive_at.ensures.seated me (c.loop-delivery.invariant.1 me seated),
)

pub returns-clause-after : goal.returns-clause-after
returns-clause-after c = λ world output past losses after.
    subst (λ (ds : List Delivery). WorldStateAfter world output (reverse (delivery_lines past losses ds) ++ past) losses c.loop-delivery.self) (take_all c.loop-delivery.delivery-index c.args.deliveries.now (omega arith)) (c.loop-delivery.invariant.0 world output past losses after)
