use Rattle.std.proofs.Common.{◌≡◌, ◌+◌, arith, rules}
use Rattle.frame_slots.proofs.FramesInOrder.{lengths, long_is, short_is, begun, placed_on, freed_on, oldest_is, same_on}
use Rattle.tests_ring.proofs.slots.ring_is_full.Goals as goal

pub loop-i-init : goal.loop-i-init
loop-i-init g c = begun c.expect-queue.result c.new-slots.result 256 lengths (search rules) (search rules) c.new-slots.ensures

pub loop-i-preserved : goal.loop-i-preserved
loop-i-preserved g c =
    let test = c.loop-i-test.true in
    placed_on _ _ 256 lengths 0 c.loop-i.i 274 (long_is c.loop-i.i (λ e. omega arith)) (omega arith) (omega arith) c.loop-i.invariant c.places.ensures.room c.places.ensures.turn

pub free-requires : goal.free-requires
free-requires g c =
    let end : c.loop-i.i ≡ 45 = let most = c.loop-i.auto.i-end in let least = c.loop-i-test.false in omega arith in
    let full = same_on _ _ 256 lengths 0 c.loop-i.i c.loop-i.invariant c.has_none.ensures in
    let more = placed_on _ _ 256 lengths 0 c.loop-i.i 14 (short_is c.loop-i.i end) (omega arith) (omega arith) full c.places-2.ensures.room c.places-2.ensures.turn in
    oldest_is _ 256 lengths 0 (c.loop-i.i + 1) 274 (long_is 0 (λ e. omega arith)) (omega arith) (same_on _ _ 256 lengths 0 (c.loop-i.i + 1) more c.has_none-2.ensures)

pub free-requires-2 : goal.free-requires-2
free-requires-2 g c =
    let end : c.loop-i.i ≡ 45 = let most = c.loop-i.auto.i-end in let least = c.loop-i-test.false in omega arith in
    let full = same_on _ _ 256 lengths 0 c.loop-i.i c.loop-i.invariant c.has_none.ensures in
    let more = placed_on _ _ 256 lengths 0 c.loop-i.i 14 (short_is c.loop-i.i end) (omega arith) (omega arith) full c.places-2.ensures.room c.places-2.ensures.turn in
    let less = freed_on _ _ 256 lengths 0 (c.loop-i.i + 1) 274 (long_is 0 (λ e. omega arith)) (omega arith) (same_on _ _ 256 lengths 0 (c.loop-i.i + 1) more c.has_none-2.ensures) c.free.ensures in
    let again = placed_on _ _ 256 lengths 1 (c.loop-i.i + 1) 274 (long_is (c.loop-i.i + 1) (λ e. omega (arith, e, end))) (omega arith) (omega arith) less c.places-3.ensures.room c.places-3.ensures.turn in
    oldest_is _ 256 lengths 1 (c.loop-i.i + 1 + 1) 274 (long_is 1 (λ e. omega arith)) (omega arith) (same_on _ _ 256 lengths 1 (c.loop-i.i + 1 + 1) again c.has_none-3.ensures)
