use Rattle.std.proofs.Common.{◌+◌, refl, arith, rules}
use Rattle.frame_slots.proofs.FramesInOrder.{begun, placed_on, freed_on, oldest_is, same_on}
use Rattle.tests_ring.proofs.slots.frame_fills_the_area.Goals as goal

pub loop-init : goal.loop-init
loop-init g c = (0, begun c.expect-queue.result c.new-slots.result 14574 _ (search rules) (search rules) c.new-slots.ensures)

pub free-requires : goal.free-requires
free-requires g c =
    let sent = c.loop.invariant.0 in
    let h = placed_on _ _ 14574 (λ k. 14592) sent sent 14592 refl (omega arith) (omega arith) c.loop.invariant.1 c.places.ensures.room c.places.ensures.turn in
    oldest_is _ 14574 (λ k. 14592) sent (sent + 1) 14592 refl (omega arith) (same_on _ _ 14574 (λ k. 14592) sent (sent + 1) h c.has_none.ensures)

pub loop-preserved : goal.loop-preserved
loop-preserved g c =
    let sent = c.loop.invariant.0 in
    let h = placed_on _ _ 14574 (λ k. 14592) sent sent 14592 refl (omega arith) (omega arith) c.loop.invariant.1 c.places.ensures.room c.places.ensures.turn in
    (sent + 1, freed_on _ _ 14574 (λ k. 14592) sent (sent + 1) 14592 refl (omega arith) (same_on _ _ 14574 (λ k. 14592) sent (sent + 1) h c.has_none.ensures) c.free.ensures)
