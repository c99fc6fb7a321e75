use Rattle.std.proofs.Common.{arith, length-append, ◌∷◌, [], ap, length}
use Rattle.frame_bridge.proofs.InitialRun.{pushed_each}
use Rattle.frame_bridge.proofs.bridging.ports_at_start.Goals as goal

pub loop-number-preserved : goal.loop-number-preserved
loop-number-preserved c = record {
  long = omega (arith, ap length c.in_ok-push.ensures.items, length-append c.loop-number.ports.items (c.in_ok-new.field-0 ∷ []), c.loop-number.invariant.long);
  each = pushed_each c.loop-number.ports.items c.push.new.self.items c.in_ok-new.field-0 c.in_ok-push.ensures.items c.loop-number.invariant.each c.in_ok-new.ensures;
}
