-- The places of a session's frames in the data area, and the condition under which another frame
-- fits.
--
-- Source: profile. `length_of k` is the length in bytes of the session's frame with number k.
use Rattle.std.specs.Prelude.{◌≡◌, ℕ, zero, suc, ◌+◌, ◌-◌, ◌*◌, ◌/◌, ◌%◌, ◌<◌, ◌≤◌, ◌⊎◌, Bool, true, false, ◌&&◌, ◌||◌, not, nat_lt, nat_le, if◌then◌else◌}
use Rattle.ivs_base.specs.Numbers.{up64}
use Rattle.split_ring.specs.declared.sizes.TheConstants.{FRAME_OVERHEAD}
use Rattle.split_ring.specs.Layout.{Sizes, IsQueue, FrameSlot, is_byte_ring, data_area_len, slot_of, limit_of, data_area_start, offset_of}

-- The footprint of a frame of `bytes` bytes, in bytes: a slot, or in a byte ring the next multiple
-- of 64.
unfoldable pub footprint_of : Sizes → ℕ → ℕ
footprint_of q bytes = if is_byte_ring q then up64 bytes else slot_of q

-- The start of `bytes` bytes that follow a frame that ended at byte `ended` of an area of `room`
-- bytes. They start there, or at byte 0 if they would pass the end.
abbrev pub start_after : (room ended bytes : ℕ) → ℕ
start_after room ended bytes = if nat_le (ended + bytes) room then ended else 0

-- In a byte ring, the byte of the area at which the frame with this number starts.
unfoldable pub ring_start : (room : ℕ) (length_of : ℕ → ℕ) → ℕ → ℕ
ring_start room length_of zero = 0
ring_start room length_of (suc k) = start_after room (ring_start room length_of k + up64 (length_of k)) (up64 (length_of (suc k)))

-- The byte of the section at which frame k starts: the start of its slot, or its byte of the byte
-- ring. The slots are used in order, modulo the limit.
unfoldable pub start_of : Sizes → (length_of : ℕ → ℕ) → ℕ → ℕ
start_of q length_of k = if is_byte_ring q then data_area_start q + ring_start (data_area_len q) length_of k else offset_of q (FrameSlot (k % limit_of q))

-- The `bytes` bytes from `from` on and the `others` bytes from `other` on have none in common.
abbrev pub AreApart : (from bytes other others : ℕ) → Type 0
AreApart from bytes other others = (from + bytes ≤ other) ⊎ (other + others ≤ from)

abbrev pub are_apart : (from bytes other others : ℕ) → Bool
are_apart from bytes other others = nat_le (from + bytes) other || nat_le (other + others) from

-- The footprint of frame `number` shares no byte with the footprints of the `count` frames from k
-- on.
abbrev pub is_apart_from : Sizes → (length_of : ℕ → ℕ) → (number k count : ℕ) → Bool
is_apart_from q length_of number k zero = true
is_apart_from q length_of number k (suc count) =
    are_apart (start_of q length_of k) (footprint_of q (length_of k)) (start_of q length_of number) (footprint_of q (length_of number)) &&
    is_apart_from q length_of number (k + 1) count

-- The frame with number `number` fits after `freed` frames were freed. The number of frames in
-- flight is below the limit, and in a byte ring no frame in flight shares a byte of its footprint.
unfoldable pub has_room : Sizes → (length_of : ℕ → ℕ) → (freed number : ℕ) → Bool
has_room q length_of freed number =
    nat_lt number (freed + limit_of q) && (not (is_byte_ring q) || is_apart_from q length_of number freed (number - freed))

-- Frame k starts at a multiple of 4 in the data area, and ends inside the section.
pub record IsPlaced (q : Sizes) (length_of : ℕ → ℕ) (k : ℕ) : Type 0 where
  pub even : start_of q length_of k % 4 ≡ 0
  pub after : data_area_start q ≤ start_of q length_of k
  pub holds : length_of k ≤ q.mtu + FRAME_OVERHEAD → 4 * ((length_of k + 3) / 4) ≤ footprint_of q (length_of k)
  pub inside : length_of k ≤ q.mtu + FRAME_OVERHEAD → start_of q length_of k + footprint_of q (length_of k) ≤ q.out

-- The place of a frame depends only on the lengths up to its own. If a frame fits, the number of
-- frames in flight is below the limit, and no frame in flight shares a byte of its footprint. With
-- slots it fits exactly if that number is below the limit. If no frame is in flight, every frame
-- fits.
pub record FramesAreLaidOut : Type 0 where
  pub placed : (q : Sizes) (length_of : ℕ → ℕ) (k : ℕ) → IsQueue q → IsPlaced q length_of k
  pub by_prefix : (q : Sizes) (length_of others : ℕ → ℕ) (k : ℕ) → ((j : ℕ) → j ≤ k → length_of j ≡ others j) → start_of q length_of k ≡ start_of q others k
  pub room_by_prefix : (q : Sizes) (length_of others : ℕ → ℕ) (freed number : ℕ) → ((j : ℕ) → j ≤ number → length_of j ≡ others j) →
      has_room q length_of freed number ≡ has_room q others freed number
  pub few : (q : Sizes) (length_of : ℕ → ℕ) (freed number : ℕ) → has_room q length_of freed number ≡ true → number < freed + limit_of q
  pub apart : (q : Sizes) (length_of : ℕ → ℕ) (freed number k : ℕ) → IsQueue q → has_room q length_of freed number ≡ true → freed ≤ k → k < number →
      AreApart (start_of q length_of k) (footprint_of q (length_of k)) (start_of q length_of number) (footprint_of q (length_of number))
  pub slots : (q : Sizes) (length_of : ℕ → ℕ) (freed number : ℕ) → is_byte_ring q ≡ false → has_room q length_of freed number ≡ nat_lt number (freed + limit_of q)
  pub empty : (q : Sizes) (length_of : ℕ → ℕ) (number : ℕ) → IsQueue q → has_room q length_of number number ≡ true
