-- The range of each field that the other peer writes: a fact and its test, one of each a field.
--
-- Source: VIRTIO 1.1 section 2.6 for the fields; profile for the ranges.
use Rattle.std.specs.Prelude.{◌≡◌, ℕ, ◌+◌, ◌-◌, ◌%◌, ◌<◌, ◌≤◌, ◌==◌, ◌&&◌, ◌↔◌, nat_lt, nat_le, Bool, IsTrue}
use Rattle.ivs_base.specs.Numbers.{distance}
use Rattle.split_ring.specs.declared.sizes.TheConstants.{LONGEST_FRAME, SHORTEST_FRAME}
use Rattle.split_ring.specs.Layout.{Sizes, size_of, data_area_start}

-- Available index: at most n frames follow the last one read.
abbrev pub IsAvailIndex : Sizes → (last index : ℕ) → Type 0
IsAvailIndex q last index = distance last index ≤ size_of q

abbrev pub is_avail_index : Sizes → (last index : ℕ) → Bool
is_avail_index q last index = nat_le (distance last index) (size_of q)

-- Available entry: the number of a descriptor.
abbrev pub IsAvailEntry : Sizes → (entry : ℕ) → Type 0
IsAvailEntry q entry = entry < size_of q

abbrev pub is_avail_entry : Sizes → (entry : ℕ) → Bool
is_avail_entry q entry = nat_lt entry (size_of q)

-- Descriptor's address: a multiple of 4 in the data area.
abbrev pub IsDescAddress : Sizes → (address : ℕ) → Type 0
IsDescAddress q address = (address % 4 ≡ 0) × (data_area_start q ≤ address) × (address < q.out)

abbrev pub is_desc_address : Sizes → (address : ℕ) → Bool
is_desc_address q address = (address % 4 == 0) && (nat_le (data_area_start q) address && nat_lt address q.out)

-- Descriptor's length: that of a frame, and the frame ends inside the section.
abbrev pub IsDescLength : Sizes → (address length : ℕ) → Type 0
IsDescLength q address length = (SHORTEST_FRAME ≤ length) × (length ≤ LONGEST_FRAME) × (address + length ≤ q.out)

abbrev pub is_desc_length : Sizes → (address length : ℕ) → Bool
is_desc_length q address length = nat_le SHORTEST_FRAME length && (nat_le length LONGEST_FRAME && nat_le (address + length) q.out)

-- Descriptor's flags: no descriptor is chained, indirect or for writing.
abbrev pub IsDescFlags : (flags : ℕ) → Type 0
IsDescFlags flags = flags ≡ 0

abbrev pub is_desc_flags : (flags : ℕ) → Bool
is_desc_flags flags = flags == 0

-- Used index: at most `in_flight` frames were returned since the last one freed.
abbrev pub IsUsedIndex : (last index in_flight : ℕ) → Type 0
IsUsedIndex last index in_flight = distance last index ≤ in_flight

abbrev pub is_used_index : (last index in_flight : ℕ) → Bool
is_used_index last index in_flight = nat_le (distance last index) in_flight

-- Id of a used element: the descriptor of the oldest frame in flight.
abbrev pub IsUsedId : (expected id : ℕ) → Type 0
IsUsedId expected id = id ≡ expected

abbrev pub is_used_id : (expected id : ℕ) → Bool
is_used_id expected id = id == expected

-- Each test decides its fact.
pub record TestsDecideRanges : Type 0 where
  pub avail_index : (q : Sizes) (last index : ℕ) → IsTrue (is_avail_index q last index) ↔ IsAvailIndex q last index
  pub avail_entry : (q : Sizes) (entry : ℕ) → IsTrue (is_avail_entry q entry) ↔ IsAvailEntry q entry
  pub desc_address : (q : Sizes) (address : ℕ) → IsTrue (is_desc_address q address) ↔ IsDescAddress q address
  pub desc_length : (q : Sizes) (address length : ℕ) → IsTrue (is_desc_length q address length) ↔ IsDescLength q address length
  pub desc_flags : (flags : ℕ) → IsTrue (is_desc_flags flags) ↔ IsDescFlags flags
  pub used_index : (last index in_flight : ℕ) → IsTrue (is_used_index last index in_flight) ↔ IsUsedIndex last index in_flight
  pub used_id : (expected id : ℕ) → IsTrue (is_used_id expected id) ↔ IsUsedId expected id

-- The event index wants a notification when the index moves from `old` to `new` (VIRTIO 1.1
-- sections 2.6.7 and 2.6.10).
abbrev pub needs_event : (event new old : ℕ) → Bool
needs_event event new old = nat_lt ((new + 65536 - event - 1) % 65536) (distance old new)
