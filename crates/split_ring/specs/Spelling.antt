-- The foreign fields of a section, and the frame that they hold at a position.
--
-- Source: VIRTIO 1.1 section 2.6 for the fields, which are little-endian; profile for the ranges
-- and for frames in one descriptor.
use Rattle.std.specs.Prelude.{◌≡◌, ℕ, ◌+◌, ◌*◌, ◌/◌, ◌%◌, ◌^◌, ◌==◌, zero, suc, List, [], ◌∷◌, if◌then◌else◌}
use Rattle.split_ring.specs.Layout.{Sizes, DescAddress, DescLength, DescFlags, AvailIndex, AvailEntry, UsedIndex, UsedId, size_of, word_offset}
use Rattle.split_ring.specs.Ranges.{IsAvailEntry, IsDescAddress, IsDescLength, IsDescFlags}

-- A field of two bytes is a half of its word. Flags are the low half.
abbrev pub low_half : ℕ → ℕ
low_half word = word % 65536

-- An index is the high half of its word.
abbrev pub high_half : ℕ → ℕ
high_half word = word / 65536

-- Available entry k is the low half of its word if k is even, else the high half.
abbrev pub entry_half : ℕ → ℕ → ℕ
entry_half k word = (if k % 2 == 0 then low_half word else high_half word)

-- The flags of a descriptor are the low half of their word.
abbrev pub desc_flags : ℕ → ℕ
desc_flags word = low_half word

-- In the following definitions, `words` gives the value of each word of a section, by its number
-- from the start of the section.

-- The available index.
abbrev pub avail_index : Sizes → (ℕ → ℕ) → ℕ
avail_index q words = high_half (words (word_offset q AvailIndex))

-- The available entry at a position.
abbrev pub entry_at : Sizes → (ℕ → ℕ) → ℕ → ℕ
entry_at q words position = entry_half (position % size_of q) (words (word_offset q (AvailEntry (position % size_of q))))

-- The address of descriptor i, as one number of 64 bits.
abbrev pub address_at : Sizes → (ℕ → ℕ) → ℕ → ℕ
address_at q words i = words (word_offset q (DescAddress i)) + 2 ^ 32 * words (word_offset q (DescAddress i) + 1)

-- The length of descriptor i.
abbrev pub length_at : Sizes → (ℕ → ℕ) → ℕ → ℕ
length_at q words i = words (word_offset q (DescLength i))

-- The flags of descriptor i.
abbrev pub flags_at : Sizes → (ℕ → ℕ) → ℕ → ℕ
flags_at q words i = desc_flags (words (word_offset q (DescFlags i)))

-- The used index.
abbrev pub used_index : Sizes → (ℕ → ℕ) → ℕ
used_index q words = high_half (words (word_offset q UsedIndex))

-- The id of the used element at a position.
abbrev pub id_at : Sizes → (ℕ → ℕ) → ℕ → ℕ
id_at q words position = words (word_offset q (UsedId (position % size_of q)))

-- The byte at offset `place`, from the word that holds it. The lowest byte of a word is first.
abbrev pub byte_at : (ℕ → ℕ) → ℕ → ℕ
byte_at words place = words (place / 4) / 256 ^ (place % 4) % 256

-- The `count` bytes from offset `place` on.
abbrev pub bytes_from : (ℕ → ℕ) → (place count : ℕ) → List ℕ
bytes_from words place zero = []
bytes_from words place (suc count) = byte_at words place ∷ bytes_from words (place + 1) count

-- The words hold this frame at this position: its available entry is e, descriptor e is in its
-- ranges, and it names the frame's bytes.
pub record Spells (q : Sizes) (words : ℕ → ℕ) (position e : ℕ) (frame : List ℕ) : Type 0 where
  pub entry_is : entry_at q words position ≡ e
  pub entry : IsAvailEntry q e
  pub address : IsDescAddress q (address_at q words e)
  pub length : IsDescLength q (address_at q words e) (length_at q words e)
  pub flags : IsDescFlags (flags_at q words e)
  pub bytes : frame ≡ bytes_from words (address_at q words e) (length_at q words e)
