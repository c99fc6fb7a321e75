-- The allocator of a section: its descriptors, which are used in order, and the bytes of its data
-- area that belong to them (profile).
use Rattle.std.specs.Prelude.{◌≡◌, ◌≢◌, ℕ, ◌+◌, ◌-◌, ◌%◌, ◌<◌, ◌≤◌, ◌⊎◌, ◌↔◌, Bool, ◌&&◌, ◌||◌, ◌==◌, nat_lt, nat_le, if◌then◌else◌}
use Rattle.ivs_base.specs.Numbers.{up64}
use Rattle.split_ring.specs.Layout.{Sizes, IsQueue, FrameSlot, is_byte_ring, data_area_len, slots_of, limit_of, data_area_start, offset_of, HasByte}
use Rattle.split_ring.specs.Frames.{start_after}
use Rattle.frame_slots.specs.declared.slots.Slot as slots

-- The state of the allocator: the sizes of the queue, the next descriptor, and the number of frames
-- in flight. In a byte ring three bytes of the area follow. `head` is the start of the oldest frame
-- in flight, and `tail` the end of the newest frame placed. `left` is the end of the last frame
-- before the wrap. With slots these three are 0.
pub record Allocator : Type 0 where
  pub sizes : Sizes
  pub next : ℕ
  pub in_flight : ℕ
  pub head : ℕ
  pub tail : ℕ
  pub left : ℕ

-- The initial allocator: no frame was placed.
abbrev pub initial_allocator : Sizes → Allocator
initial_allocator sizes = record { sizes = sizes; next = 0; in_flight = 0; head = 0; tail = 0; left = 0 }

-- The invariant of an allocator: the number of frames in flight is at most the limit, and the three
-- bytes are in the area.
pub record IsAllocator (t : Allocator) : Type 0 where
  pub next : t.next < limit_of t.sizes
  pub in_flight : t.in_flight ≤ limit_of t.sizes
  pub head : t.head ≤ data_area_len t.sizes
  pub tail : t.tail ≤ data_area_len t.sizes

-- The descriptor `count` before the next one.
abbrev pub descriptor_before : Allocator → ℕ → ℕ
descriptor_before t count = (t.next + limit_of t.sizes - count) % limit_of t.sizes

-- A descriptor is in flight exactly if it is one of the `in_flight` descriptors before the next
-- one.
abbrev pub IsInFlight : Allocator → ℕ → Type 0
IsInFlight t descriptor = (count : ℕ) × (0 < count) × (count ≤ t.in_flight) × (descriptor ≡ descriptor_before t count)

-- The descriptor of the oldest frame in flight.
abbrev pub oldest_of : Allocator → ℕ
oldest_of t = descriptor_before t t.in_flight

-- The number of bytes of the byte ring that a frame of `bytes` bytes occupies: the next multiple of
-- 64, and 0 with slots.
abbrev pub ring_bytes : Sizes → ℕ → ℕ
ring_bytes sizes bytes = if is_byte_ring sizes then up64 bytes else 0

-- `bytes` bytes of the byte ring are free after the newest frame, if at least one frame is in
-- flight. If the frames in flight wrapped, the free bytes end at the oldest frame. If not, they end
-- at the end of the area, or they begin at byte 0 and end at the oldest frame.
abbrev pub bytes_are_free : (room head tail bytes : ℕ) → Bool
bytes_are_free room head tail bytes = if nat_le tail head then nat_le (tail + bytes) head else (nat_le (tail + bytes) room || nat_le bytes head)

-- Another frame of `bytes` bytes fits: the number of frames in flight is below the limit, and its
-- bytes are free.
abbrev pub has_room_in : Allocator → (bytes : ℕ) → Bool
has_room_in t bytes = nat_lt t.in_flight (limit_of t.sizes) && (t.in_flight == 0 || bytes_are_free (data_area_len t.sizes) t.head t.tail (ring_bytes t.sizes bytes))

-- The byte of the area at which the next frame starts.
abbrev pub next_start : Allocator → (bytes : ℕ) → ℕ
next_start t bytes = start_after (data_area_len t.sizes) t.tail (ring_bytes t.sizes bytes)

-- The slot of the next frame: the next descriptor, and the frame's byte of the byte ring or the
-- start of the descriptor's slot.
abbrev pub next_slot : Allocator → (bytes : ℕ) → slots.Slot
next_slot t bytes = record {
  descriptor = t.next;
  address = if is_byte_ring t.sizes then data_area_start t.sizes + next_start t bytes else offset_of t.sizes (FrameSlot t.next);
}

-- One more frame is in flight.
abbrev pub with_placed : Allocator → (bytes : ℕ) → Allocator
with_placed t bytes = record {
  sizes = t.sizes;
  next = (t.next + 1) % limit_of t.sizes;
  in_flight = t.in_flight + 1;
  head = if t.in_flight == 0 then next_start t bytes else t.head;
  tail = next_start t bytes + ring_bytes t.sizes bytes;
  left = if nat_le (t.tail + ring_bytes t.sizes bytes) (data_area_len t.sizes) then t.left else t.tail;
}

-- The byte of the area at which the frame after the oldest one starts. It is byte 0 if the frames
-- in flight wrapped after the oldest one.
abbrev pub second_start : Allocator → (bytes : ℕ) → ℕ
second_start t bytes = if nat_le t.tail t.head && (t.head + bytes == t.left) then 0 else t.head + bytes

-- The oldest frame, of `bytes` bytes, is freed.
abbrev pub with_freed : Allocator → (bytes : ℕ) → Allocator
with_freed t bytes = record t { in_flight = t.in_flight - 1; head = second_start t (ring_bytes t.sizes bytes) }

-- The slots of two descriptors share no byte.
abbrev pub SlotsAreApart : Type 0
SlotsAreApart = (q : Sizes) (i j b : ℕ) → IsQueue q → i < slots_of q → j < slots_of q →
    HasByte q (FrameSlot i) b → HasByte q (FrameSlot j) b → i ≡ j

-- A placed descriptor joins those in flight, and the oldest one leaves them at its free.
pub record DescriptorsAreReusedInOrder : Type 0 where
  pub placed : (t : Allocator) (bytes descriptor : ℕ) → IsAllocator t → t.in_flight < limit_of t.sizes →
      IsInFlight (with_placed t bytes) descriptor ↔ (IsInFlight t descriptor ⊎ (descriptor ≡ t.next))
  pub freed : (t : Allocator) (bytes descriptor : ℕ) → IsAllocator t → 0 < t.in_flight →
      IsInFlight (with_freed t bytes) descriptor ↔ (IsInFlight t descriptor × (descriptor ≢ oldest_of t))
