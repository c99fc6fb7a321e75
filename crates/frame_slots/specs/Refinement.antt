-- The frames of a session that the allocator's numbers refine.
use Rattle.std.specs.Prelude.{◌≡◌, ℕ, zero, suc, ◌+◌, ◌%◌, ◌<◌, ◌≤◌, ◌⊎◌, true, false}
use Rattle.ivs_base.specs.Numbers.{up64}
use Rattle.split_ring.specs.declared.sizes.TheConstants.{FRAME_OVERHEAD, SHORTEST_FRAME}
use Rattle.split_ring.specs.Layout.{Sizes, IsQueue, is_byte_ring, data_area_len, limit_of}
use Rattle.split_ring.specs.Frames.{ring_start, start_of, has_room}
use Rattle.frame_slots.specs.Allocator.{Allocator, initial_allocator, has_room_in, next_slot, with_placed, with_freed}

-- The end of the frame before frame `k`, and 0 if there is none.
unfoldable pub ring_end : (room : ℕ) (length_of : ℕ → ℕ) → ℕ → ℕ
ring_end room length_of zero = 0
ring_end room length_of (suc k) = ring_start room length_of k + up64 (length_of k)

-- After frame m and before frame n, each frame starts at the end of the frame before it.
abbrev pub AreContiguous : (room : ℕ) (length_of : ℕ → ℕ) (m n : ℕ) → Type 0
AreContiguous room length_of m n = (k : ℕ) → m < k → k < n → ring_start room length_of k ≡ ring_end room length_of k

-- The frames in flight wrap before frame `wrap`: the frame before it ended at `left`, and frame
-- `wrap` starts at 0. The frames from `wrap` on end at or before the start of the oldest one.
pub record WrapsOnce (room : ℕ) (length_of : ℕ → ℕ) (freed sent : ℕ) (t : Allocator) : Type 0 where
  pub wrap : ℕ
  pub after : freed < wrap
  pub below : wrap < sent
  pub first : AreContiguous room length_of freed wrap
  pub then : AreContiguous room length_of wrap sent
  pub at_zero : ring_start room length_of wrap ≡ 0
  pub left : t.left ≡ ring_end room length_of wrap
  pub before : t.tail ≤ t.head

-- The numbers of a byte ring refine the frames from `freed` on and below `sent`. Each of them has a
-- byte and fits into the area. The newest frame placed ended at the tail, the oldest in flight
-- starts at the head, and they wrap at most once.
pub record RingRefinesSession (t : Allocator) (room : ℕ) (length_of : ℕ → ℕ) (freed sent : ℕ) : Type 0 where
  pub some : (k : ℕ) → freed ≤ k → k < sent → 1 ≤ length_of k
  pub fits : (k : ℕ) → freed ≤ k → k < sent → up64 (length_of k) ≤ room
  pub tail : t.tail ≡ ring_end room length_of sent
  pub head : freed < sent → t.head ≡ ring_start room length_of freed
  pub run : AreContiguous room length_of freed sent ⊎ WrapsOnce room length_of freed sent t

-- The allocator refines the frames from `freed` on and below `sent` of a session with these
-- lengths.
pub record RefinesSession (t : Allocator) (length_of : ℕ → ℕ) (freed sent : ℕ) : Type 0 where
  pub next : t.next ≡ sent % limit_of t.sizes
  pub in_flight : freed + t.in_flight ≡ sent
  pub most : t.in_flight ≤ limit_of t.sizes
  pub ring : is_byte_ring t.sizes ≡ true → RingRefinesSession t (data_area_len t.sizes) length_of freed sent
  pub slots : is_byte_ring t.sizes ≡ false → (t.head ≡ 0) × (t.tail ≡ 0) × (t.left ≡ 0)

-- The oldest frame in flight has `bytes` bytes in a session that the allocator refines.
abbrev pub IsOldest : Allocator → (bytes : ℕ) → Type 0
IsOldest t bytes = (length_of : ℕ → ℕ) × (freed : ℕ) × (sent : ℕ) × RefinesSession t length_of freed sent × (freed < sent) × (length_of freed ≡ bytes)

-- The initial allocator refines a session without frames. The lengths of later frames make no
-- difference. Another frame fits in the allocator exactly if it fits in the session, and it gets
-- the session's descriptor and place. The allocator still refines the session after a frame is
-- placed or freed.
pub record AllocatorRefinesSession : Type 0 where
  pub starts : (q : Sizes) (length_of : ℕ → ℕ) → RefinesSession (initial_allocator q) length_of 0 0
  pub by_prefix : (t : Allocator) (length_of others : ℕ → ℕ) (freed sent : ℕ) → ((j : ℕ) → j < sent → length_of j ≡ others j) →
      RefinesSession t length_of freed sent → RefinesSession t others freed sent
  pub decides : (t : Allocator) (length_of : ℕ → ℕ) (freed sent : ℕ) → IsQueue t.sizes → RefinesSession t length_of freed sent →
      SHORTEST_FRAME ≤ length_of sent → length_of sent ≤ t.sizes.mtu + FRAME_OVERHEAD → has_room_in t (length_of sent) ≡ has_room t.sizes length_of freed sent
  pub places : (t : Allocator) (length_of : ℕ → ℕ) (freed sent : ℕ) → IsQueue t.sizes → RefinesSession t length_of freed sent →
      SHORTEST_FRAME ≤ length_of sent → length_of sent ≤ t.sizes.mtu + FRAME_OVERHEAD → has_room_in t (length_of sent) ≡ true →
      next_slot t (length_of sent) ≡ record { descriptor = sent % limit_of t.sizes; address = start_of t.sizes length_of sent }
  pub goes_on : (t : Allocator) (length_of : ℕ → ℕ) (freed sent : ℕ) → IsQueue t.sizes → RefinesSession t length_of freed sent →
      SHORTEST_FRAME ≤ length_of sent → length_of sent ≤ t.sizes.mtu + FRAME_OVERHEAD → has_room_in t (length_of sent) ≡ true →
      RefinesSession (with_placed t (length_of sent)) length_of freed (sent + 1)
  pub frees : (t : Allocator) (length_of : ℕ → ℕ) (freed sent : ℕ) → RefinesSession t length_of freed sent → freed < sent →
      RefinesSession (with_freed t (length_of freed)) length_of (freed + 1) sent
