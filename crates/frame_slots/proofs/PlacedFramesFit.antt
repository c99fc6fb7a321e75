-- A placed frame is inside the section.
use Rattle.std.proofs.Common.{◌≡◌, ℕ, ◌+◌, ◌*◌, ◌<◌, ◌≤◌, Bool, true, false, cond, refl, ap, arith}
use Rattle.std.specs.Prelude.{◌==◌, nat_lt, nat_le, ◌&&◌}
use Rattle.std.proofs.lemmas.Bool.Decides.{nat_tests}
use Rattle.std.proofs.Math.Nat.{mul-le-mul_left}
use Rattle.ivs_base.specs.Numbers.{up64}
use Rattle.split_ring.specs.Layout.{Sizes, IsQueue, FrameSlot, is_byte_ring, data_area_len, slot_of, size_of, slots_of, limit_of, data_area_start, offset_of}
use Rattle.split_ring.specs.Frames.{start_after}
use Rattle.split_ring.proofs.QueueHasBounds.{bounds}
use Rattle.split_ring.proofs.FramesAreLaidOut.{after_is, ring_inside}
use Rattle.frame_slots.specs.Allocator.{Allocator, IsAllocator, IsInFlight, ring_bytes, has_room_in, next_start, next_slot, second_start}
use Rattle.frame_slots.specs.Refinement.{IsOldest}
use Rattle.frame_slots.proofs.DescriptorsAreReusedInOrder.{next_alone}

-- A frame fits into the area.
pub ring_fits : (q : Sizes) (len : ℕ) → IsQueue q → len ≤ q.mtu + 18 → ring_bytes q len ≤ data_area_len q
ring_fits q len is short = let one = is.one_slot in pick (is_byte_ring q) (omega arith)
  where
    pick : (b : Bool) → up64 len ≤ data_area_len q → cond b (up64 len) 0 ≤ data_area_len q
    pick true h = h
    pick false h = omega arith

-- The slot of a frame is inside the section.
pub slot_fits : (q : Sizes) (i : ℕ) → IsQueue q → is_byte_ring q ≡ false → i < limit_of q → data_area_start q + slot_of q * i + slot_of q ≤ q.out
unfolding limit_of
slot_fits q i is none below =
    let limit_is : limit_of q ≡ slots_of q = ap (λ b. cond b (size_of q) (slots_of q)) none in
    let all = (bounds q is).slots in
    let one : slot_of q * (i + 1) ≤ slot_of q * slots_of q = mul-le-mul_left (slot_of q) (omega (arith, limit_is, below)) in
    omega arith

-- The bytes of a placed frame end in the area.
start_fits : (room ended bytes : ℕ) → bytes ≤ room → start_after room ended bytes + bytes ≤ room
start_fits room ended bytes fits = after_is (λ b. b + bytes ≤ room) room ended bytes (λ le. le) (λ over. omega arith)

pub frame_fits : (t : Allocator) (len : ℕ) → IsQueue t.sizes → IsAllocator t → len ≤ t.sizes.mtu + 18 → (next_slot t len).address + len ≤ t.sizes.out
frame_fits t len is wrap short = pick (is_byte_ring t.sizes) refl
  where
    pick : (b : Bool) → is_byte_ring t.sizes ≡ b → cond b (data_area_start t.sizes + next_start t len) (offset_of t.sizes (FrameSlot t.next)) + len ≤ t.sizes.out
    pick true ring =
        let fits = ring_fits t.sizes len is short in
        let start = start_fits (data_area_len t.sizes) t.tail (ring_bytes t.sizes len) fits in
        let bytes : ring_bytes t.sizes len ≡ up64 len = ap (λ b. cond b (up64 len) 0) ring in
        let rings = (bounds t.sizes is).rings in
        omega arith
    pick false slots = let h = slot_fits t.sizes t.next is slots wrap.next in omega arith

-- If a frame fits, the number of frames in flight is below the limit.
pub few_of : (t : Allocator) (len : ℕ) → has_room_in t len ≡ true → t.in_flight < limit_of t.sizes
few_of t len room = less_of _ _ (and_first _ _ room)
  where
    less_of : (a b : ℕ) → nat_lt a b ≡ true → a < b
    less_of a b h = grind (arith, nat_tests)

    false_is_true : (b : Bool) → false ≡ true → b ≡ true
    false_is_true b h = grind arith

    and_first : (a b : Bool) → (a && b) ≡ true → a ≡ true
    and_first true b h = refl
    and_first false b h = h

-- If a frame fits, its descriptor isn't in flight.
pub alone_of : (t : Allocator) (len : ℕ) → IsAllocator t → has_room_in t len ≡ true → ¬ IsInFlight t t.next
alone_of t len is room = next_alone t is (few_of t len room)

-- The oldest frame in flight ends in the area.
pub oldest_fits : (t : Allocator) (len : ℕ) → IsOldest t len → t.head + ring_bytes t.sizes len ≤ data_area_len t.sizes
oldest_fits t len (length_of, freed, sent, refines, some, is) = pick (is_byte_ring t.sizes) refl
  where
    pick : (b : Bool) → is_byte_ring t.sizes ≡ b → t.head + cond b (up64 len) 0 ≤ data_area_len t.sizes
    pick true ring =
        let r = refines.ring ring in
        let head = r.head some in
        let inside = ring_inside (data_area_len t.sizes) length_of freed (r.fits freed (omega arith) some) in
        let same : up64 (length_of freed) ≡ up64 len = ap up64 is in
        omega arith
    pick false slots = let zero = (refines.slots slots).0 in omega arith

pub oldest_some : (t : Allocator) (len : ℕ) → IsOldest t len → 0 < t.in_flight
oldest_some t len (length_of, freed, sent, refines, some, is) = let all = refines.in_flight in omega arith

pub second_fits : (t : Allocator) (bytes : ℕ) → t.head + bytes ≤ data_area_len t.sizes → second_start t bytes ≤ data_area_len t.sizes
second_fits t bytes h = pick (nat_le t.tail t.head && (t.head + bytes == t.left))
  where
    pick : (b : Bool) → cond b 0 (t.head + bytes) ≤ data_area_len t.sizes
    pick true = omega arith
    pick false = h
