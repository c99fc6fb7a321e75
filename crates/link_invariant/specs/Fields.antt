-- The fields of an output section that the two ends use: the word of each field, and the part of
-- that word. Source: VIRTIO 1.1, section 2.6, for split virtqueues. Profile: one half of the queue
-- in each section.
use Rattle.std.specs.Prelude.{ℕ, ◌+◌, ◌/◌, nat_lt, nat_le, Bool, true, ◌&&◌}
use Rattle.split_ring.specs.Layout.{Sizes, size_of, data_area_start, word_offset, DescAddress, DescLength as LayoutDescLength, DescFlags as LayoutDescFlags, AvailIndex as LayoutAvailIndex, AvailEntry as LayoutAvailEntry, UsedId as LayoutUsedId, UsedLength as LayoutUsedLength, AvailEvent as LayoutAvailEvent}
use Rattle.split_ring.specs.Layout as ring
use Rattle.split_ring.specs.Spelling.{low_half, high_half, entry_half, desc_flags}

-- The two indices and avail_event. The available entry, and the id and the length of the used
-- element, at a position of their ring. The parts of a descriptor, and the words of the data area,
-- by their numbers in the section.
pub data Field : Type 0 where
  AvailIndex : Field
  UsedIndex : Field
  AvailEvent : Field
  AvailEntry : (position : ℕ) → Field
  UsedId : (position : ℕ) → Field
  UsedLength : (position : ℕ) → Field
  AddressLow : (descriptor : ℕ) → Field
  AddressHigh : (descriptor : ℕ) → Field
  DescLength : (descriptor : ℕ) → Field
  DescFlags : (descriptor : ℕ) → Field
  DataWord : (word : ℕ) → Field

-- Positions and descriptors are below the queue size, and the data area ends at the section's end.
abbrev pub is_field : Sizes → Field → Bool
is_field sizes AvailIndex = true
is_field sizes UsedIndex = true
is_field sizes AvailEvent = true
is_field sizes (AvailEntry k) = nat_lt k (size_of sizes)
is_field sizes (UsedId k) = nat_lt k (size_of sizes)
is_field sizes (UsedLength k) = nat_lt k (size_of sizes)
is_field sizes (AddressLow i) = nat_lt i (size_of sizes)
is_field sizes (AddressHigh i) = nat_lt i (size_of sizes)
is_field sizes (DescLength i) = nat_lt i (size_of sizes)
is_field sizes (DescFlags i) = nat_lt i (size_of sizes)
is_field sizes (DataWord word) = nat_le (data_area_start sizes / 4) word && nat_lt word (sizes.out / 4)

-- The word of the section in which a field is.
abbrev pub field_word : Sizes → Field → ℕ
field_word sizes AvailIndex = word_offset sizes LayoutAvailIndex
field_word sizes UsedIndex = word_offset sizes ring.UsedIndex
field_word sizes AvailEvent = word_offset sizes LayoutAvailEvent
field_word sizes (AvailEntry k) = word_offset sizes (LayoutAvailEntry k)
field_word sizes (UsedId k) = word_offset sizes (LayoutUsedId k)
field_word sizes (UsedLength k) = word_offset sizes (LayoutUsedLength k)
field_word sizes (AddressLow i) = word_offset sizes (DescAddress i)
field_word sizes (AddressHigh i) = word_offset sizes (DescAddress i) + 1
field_word sizes (DescLength i) = word_offset sizes (LayoutDescLength i)
field_word sizes (DescFlags i) = word_offset sizes (LayoutDescFlags i)
field_word sizes (DataWord word) = word

-- The field in its word: indices, avail_event, entries and flags are halves of it, any other field
-- is the whole word.
abbrev pub part_of : Field → ℕ → ℕ
part_of AvailIndex word = high_half word
part_of UsedIndex word = high_half word
part_of AvailEvent word = low_half word
part_of (AvailEntry k) word = entry_half k word
part_of (DescFlags i) word = desc_flags word
part_of field word = word
