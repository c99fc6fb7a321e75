use Rattle.std.proofs.Common.{◌+◌, refl, arith, rules}
use Rattle.frame_slots.proofs.FramesInOrder.{begun, placed_on, freed_on, oldest_is}
use Rattle.tests_ring.proofs.slots.frames_go_round_the_ring.Goals as goal

pub loop-i-init : goal.loop-i-init
loop-i-init g c = begun c.expect-queue.result c.new-slots.result 256 _ (search rules) (search rules) c.new-slots.ensures

pub free-requires : goal.free-requires
free-requires g c =
    let h = placed_on _ _ 256 (λ k. 14) c.loop-i.i c.loop-i.i 14 refl (omega arith) (omega arith) c.loop-i.invariant c.places.ensures.room c.places.ensures.turn in
    oldest_is _ 256 (λ k. 14) c.loop-i.i (c.loop-i.i + 1) 14 refl (omega arith) h

pub loop-i-preserved : goal.loop-i-preserved
loop-i-preserved g c =
    let h = placed_on _ _ 256 (λ k. 14) c.loop-i.i c.loop-i.i 14 refl (omega arith) (omega arith) c.loop-i.invariant c.places.ensures.room c.places.ensures.turn in
    freed_on _ _ 256 (λ k. 14) c.loop-i.i (c.loop-i.i + 1) 14 refl (omega arith) h c.free.ensures
