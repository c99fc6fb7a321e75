-- Words, the fields in them, and frames as words (VIRTIO 1.1, section 2.6: fields are
-- little-endian).
use Rattle.std.specs.Prelude.{ℕ, ◌+◌, ◌*◌, ◌/◌, ◌%◌, ◌==◌, if◌then◌else◌, List, [], ◌∷◌, take, drop, flat_map, length, get_or}
use Rattle.ivs_base.specs.Numbers.{word_of}

-- The word that an end writes for an index: the index modulo 65,536 in the high half, and flags 0
-- in the low half.
abbrev pub index_word : ℕ → ℕ
index_word index = 65536 * (index % 65536)

-- The word `word` with `value` as entry k of the available ring, and the other half unchanged. An
-- even entry is the low half of its word, an odd one the high half (VIRTIO 1.1, section 2.6.6).
abbrev pub with_entry : ℕ → ℕ → ℕ → ℕ
with_entry k word value = if k % 2 == 0 then word / 65536 * 65536 + value else word % 65536 + 65536 * value

-- The 64-bit address of a descriptor, from its low and its high word.
abbrev pub address_of : ℕ → ℕ → ℕ
address_of low high = low + 4294967296 * high

-- The number of words that hold `bytes` bytes; the last one may be filled in part.
abbrev pub words_for : ℕ → ℕ
words_for bytes = (bytes + 3) / 4

-- The length of frame k in bytes, or 0 if there is no frame k.
abbrev pub lengths_of : List (List ℕ) → ℕ → ℕ
lengths_of frames k = length (get_or frames k [])

-- Word j of a frame: its bytes from 4j on, with 0 after the last.
abbrev pub frame_word : List ℕ → ℕ → ℕ
frame_word frame j = word_of (take 4 (drop (4 * j) frame))

-- The four bytes of a word.
abbrev pub word_bytes : ℕ → List ℕ
word_bytes word = word % 256 ∷ word / 256 % 256 ∷ word / 65536 % 256 ∷ word / 16777216 % 256 ∷ []

-- The frame in these words: their first `length` bytes.
abbrev pub frame_in : ℕ → List ℕ → List ℕ
frame_in length words = take length (flat_map word_bytes words)
