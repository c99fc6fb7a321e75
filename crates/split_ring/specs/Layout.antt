-- The offset of each field of an output section.
--
-- Source: VIRTIO 1.1 section 2.6 for the parts of a split virtqueue, their order and the widths of
-- their fields. Profile: the alignments to 64 bytes, the queue size, the slots and the limit of
-- frames in flight.
use Rattle.std.specs.Prelude.{◌≡◌, ℕ, ◌+◌, ◌-◌, ◌*◌, ◌/◌, ◌%◌, ◌^◌, ◌<◌, ◌≤◌, min, List, [], ◌∷◌, Bool, Option, Some, find, nat_lt, nat_le, if◌then◌else◌, unwrap_or, MatchOption}
use Rattle.ivs_base.specs.Numbers.{up64}
use Rattle.section_map.specs.declared.limits.TheConstants.{LARGEST_REGION}
use Rattle.split_ring.specs.declared.sizes.TheConstants.{FRAME_OVERHEAD, LEAST_MTU, LEAST_QUEUE, MOST_MTU, MOST_QUEUE}

-- The numbers that determine the layout: the version of the link, the length in bytes of an output
-- section, and the MTU.
pub record Sizes : Type 0 where
  pub version : ℕ
  pub out : ℕ
  pub mtu : ℕ

-- The versions of the link (profile). In version 1 a peer rings for every frame.
abbrev pub IsVersion : ℕ → Type 0
IsVersion version = (1 ≤ version) × (version ≤ 3)

-- From version 2 on a peer rings only if the other's avail_event wants a doorbell (VIRTIO 1.1
-- section 2.6.10).
abbrev pub has_events : Sizes → Bool
has_events q = nat_le 2 q.version

-- In version 3 the data area is a byte ring. In earlier versions it is cut into slots.
abbrev pub is_byte_ring : Sizes → Bool
is_byte_ring q = nat_le 3 q.version

-- Offsets are in bytes from the start of the section. The descriptors of a queue of n are first,
-- with 16 bytes each. The available ring follows them.
abbrev pub avail_ring_offset : ℕ → ℕ
avail_ring_offset n = 16 * n

-- The available ring has 6 bytes and 2 for each entry. The used ring begins at the next multiple of
-- 64.
abbrev pub used_ring_offset : ℕ → ℕ
used_ring_offset n = up64 (18 * n + 6)

-- The used ring has 6 bytes and 8 for each element. The data area begins at the next multiple of
-- 64.
abbrev pub rings_len : ℕ → ℕ
rings_len n = up64 (used_ring_offset n + 6 + 8 * n)

-- The descriptors and rings of a queue of n are shorter than an eighth of the section.
abbrev pub Fits : ℕ → ℕ → Type 0
Fits out n = 8 * rings_len n < out

-- The powers of two from 4,096 down to 64.
abbrev pub queue_sizes : List ℕ
queue_sizes = 4096 ∷ 2048 ∷ 1024 ∷ 512 ∷ 256 ∷ 128 ∷ 64 ∷ []

-- The queue size for a section of `out` bytes: the greatest of these that fits.
unfoldable pub queue_size : ℕ → Option ℕ
queue_size out = find (λ n. nat_lt (8 * rings_len n) out) queue_sizes

-- The queue size: the number of descriptors, of available entries and of used elements.
abbrev pub size_of : Sizes → ℕ
size_of q = unwrap_or (queue_size q.out) 0

-- The offset of the data area, in bytes.
abbrev pub data_area_start : Sizes → ℕ
data_area_start q = rings_len (size_of q)

-- The length of the data area, in bytes.
abbrev pub data_area_len : Sizes → ℕ
data_area_len q = q.out - data_area_start q

-- The length in bytes of a slot, which holds the longest frame of the MTU, rounded up to a multiple
-- of 64.
abbrev pub slot_of : Sizes → ℕ
slot_of q = up64 (FRAME_OVERHEAD + q.mtu)

-- The number of slots: the number that the data area holds, and at most the number of descriptors.
unfoldable pub slots_of : Sizes → ℕ
slots_of q = min (size_of q) (data_area_len q / slot_of q)

-- The limit of frames in flight: the number of descriptors in a byte ring, else the number of
-- slots.
unfoldable pub limit_of : Sizes → ℕ
limit_of q = if is_byte_ring q then size_of q else slots_of q

-- The sizes of a queue: the version is known, a queue size fits, and the data area holds a slot.
pub record IsQueue (q : Sizes) : Type 0 where
  pub known : IsVersion q.version
  pub mtu_least : LEAST_MTU ≤ q.mtu
  pub mtu_most : q.mtu ≤ MOST_MTU
  pub section : q.out ≤ LARGEST_REGION
  pub fits : queue_size q.out ≡ Some (size_of q)
  pub one_slot : slot_of q ≤ data_area_len q

-- The fields of a section: of descriptor i, of the available ring with its entries, of the used
-- ring with its elements, and the slots.
pub data Field : Type 0 where
  DescAddress : (i : ℕ) → Field
  DescLength : (i : ℕ) → Field
  DescFlags : (i : ℕ) → Field
  DescNext : (i : ℕ) → Field
  AvailFlags : Field
  AvailIndex : Field
  AvailEntry : (k : ℕ) → Field
  UsedEvent : Field
  UsedFlags : Field
  UsedIndex : Field
  UsedId : (k : ℕ) → Field
  UsedLength : (k : ℕ) → Field
  AvailEvent : Field
  FrameSlot : (i : ℕ) → Field

-- The offset of a field, in bytes.
abbrev pub offset_of : Sizes → Field → ℕ
offset_of q (DescAddress i) = 16 * i
offset_of q (DescLength i) = 16 * i + 8
offset_of q (DescFlags i) = 16 * i + 12
offset_of q (DescNext i) = 16 * i + 14
offset_of q AvailFlags = avail_ring_offset (size_of q)
offset_of q AvailIndex = avail_ring_offset (size_of q) + 2
offset_of q (AvailEntry k) = avail_ring_offset (size_of q) + 4 + 2 * k
offset_of q UsedEvent = avail_ring_offset (size_of q) + 4 + 2 * size_of q
offset_of q UsedFlags = used_ring_offset (size_of q)
offset_of q UsedIndex = used_ring_offset (size_of q) + 2
offset_of q (UsedId k) = used_ring_offset (size_of q) + 4 + 8 * k
offset_of q (UsedLength k) = used_ring_offset (size_of q) + 8 + 8 * k
offset_of q AvailEvent = used_ring_offset (size_of q) + 4 + 8 * size_of q
offset_of q (FrameSlot i) = data_area_start q + slot_of q * i

-- The width of a field, in bytes.
abbrev pub width_of : Sizes → Field → ℕ
width_of q (DescAddress i) = 8
width_of q (DescLength i) = 4
width_of q (UsedId k) = 4
width_of q (UsedLength k) = 4
width_of q (FrameSlot i) = slot_of q
width_of q f = 2

-- The field belongs to this section.
abbrev pub IsField : Sizes → Field → Type 0
IsField q (DescAddress i) = i < size_of q
IsField q (DescLength i) = i < size_of q
IsField q (DescFlags i) = i < size_of q
IsField q (DescNext i) = i < size_of q
IsField q (AvailEntry k) = k < size_of q
IsField q (UsedId k) = k < size_of q
IsField q (UsedLength k) = k < size_of q
IsField q (FrameSlot i) = i < slots_of q
IsField q f = Unit {0}

-- The word of the section in which a field begins.
abbrev pub word_offset : Sizes → Field → ℕ
word_offset q f = offset_of q f / 4

-- Byte b of the section belongs to the field.
abbrev pub HasByte : Sizes → Field → ℕ → Type 0
HasByte q f b = (offset_of q f ≤ b) × (b < offset_of q f + width_of q f)

-- The alignment of a field, in bytes: a field of two bytes begins at a half of a word, any other at
-- a word.
abbrev pub alignment_of : Field → ℕ
alignment_of (DescAddress i) = 4
alignment_of (DescLength i) = 4
alignment_of (UsedId k) = 4
alignment_of (UsedLength k) = 4
alignment_of (FrameSlot i) = 4
alignment_of f = 2

-- No byte belongs to two fields, and each field is inside the section. Flags and event indices are
-- in the low half of their words, next and indices in the high half. Available entries alternate
-- between the halves.
pub record IsLaidOut (q : Sizes) : Type 0 where
  pub apart : (f g : Field) (b : ℕ) → IsField q f → IsField q g → HasByte q f b → HasByte q g b → f ≡ g
  pub inside : (f : Field) → IsField q f → offset_of q f + width_of q f ≤ q.out
  pub aligned : (f : Field) → offset_of q f % alignment_of f ≡ 0
  pub flags : (i : ℕ) → offset_of q (DescFlags i) % 4 ≡ 0
  pub next : (i : ℕ) → offset_of q (DescNext i) % 4 ≡ 2
  pub avail_index : offset_of q AvailIndex % 4 ≡ 2
  pub entries : (k : ℕ) → offset_of q (AvailEntry k) % 4 ≡ 2 * (k % 2)
  pub used_event : offset_of q UsedEvent % 4 ≡ 0
  pub used_index : offset_of q UsedIndex % 4 ≡ 2
  pub avail_event : offset_of q AvailEvent % 4 ≡ 0

-- The bounds of a queue's numbers. The queue size divides 65,536, so an index that wraps from
-- 65,535 to 0 moves from the last entry to the first.
pub record HasBounds (q : Sizes) : Type 0 where
  pub size_least : LEAST_QUEUE ≤ size_of q
  pub size_most : size_of q ≤ MOST_QUEUE
  pub size_whole : size_of q % 64 ≡ 0
  pub divides : 65536 % size_of q ≡ 0
  pub limit_least : 0 < limit_of q
  pub limit_most : limit_of q ≤ size_of q
  pub rings : 8 * data_area_start q < q.out
  pub slots : data_area_start q + slot_of q * slots_of q ≤ q.out

-- n is the greatest power of two from 64 to 4,096 whose descriptors and rings are shorter than an
-- eighth of the section.
pub record IsQueueSize (out n : ℕ) : Type 0 where
  pub power : (k : ℕ) × ((6 ≤ k) × (k ≤ 12) × (n ≡ 2 ^ k))
  pub fits : Fits out n
  pub greatest : (k : ℕ) → 6 ≤ k → k ≤ 12 → Fits out (2 ^ k) → 2 ^ k ≤ n

-- The queue size is that power of two, and there is none if none of these powers fits.
abbrev pub QueueSizeIsGreatest : Type 0
QueueSizeIsGreatest = (out : ℕ) → MatchOption (queue_size out) ((k : ℕ) → 6 ≤ k → k ≤ 12 → Fits out (2 ^ k) → 2 ^ k ≤ 0) (IsQueueSize out)

-- Each queue is laid out in this way.
abbrev pub QueuesAreLaidOut : Type 0
QueuesAreLaidOut = (q : Sizes) → IsQueue q → IsLaidOut q
