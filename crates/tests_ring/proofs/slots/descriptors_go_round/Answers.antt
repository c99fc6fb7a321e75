use Rattle.std.proofs.Common.{refl, arith}
use Rattle.frame_slots.proofs.FramesInOrder.{placed_on, freed_on, oldest_is, same_on}
use Rattle.tests_ring.proofs.slots.descriptors_go_round.Goals as goal

pub loop-i-preserved : goal.loop-i-preserved
loop-i-preserved g c = placed_on _ _ 256 (λ k. 274) 0 c.loop-i.i-counter 274 refl (omega arith) (omega arith) c.loop-i.invariant c.places.ensures.room c.places.ensures.turn

pub free-requires-2 : goal.free-requires-2
free-requires-2 g c =
    let least = c.loop-i-test.false in
    let full = same_on _ _ 256 (λ k. 274) 0 c.loop-i.i-counter c.loop-i.invariant c.has_none.ensures in
    let less = freed_on _ _ 256 (λ k. 274) 0 c.loop-i.i-counter 274 refl (omega arith) full c.free.ensures in
    oldest_is _ 256 (λ k. 274) 1 c.loop-i.i-counter 274 refl (omega arith) less
