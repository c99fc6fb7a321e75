-- Numbers of the ring layout (VIRTIO 1.1, section 2.6: indices are free-running, fields are
-- little-endian).
use Rattle.std.specs.Prelude.{ℕ, ◌+◌, ◌-◌, ◌*◌, ◌/◌, ◌%◌, List, [], ◌∷◌}

-- The least multiple of 64 that isn't below `value` (profile: parts of a section start at multiples
-- of 64).
abbrev pub up64 : ℕ → ℕ
up64 value = (value + 63) / 64 * 64

-- The number of increments of a free-running index from `from` to `to`, modulo 65,536.
abbrev pub distance : ℕ → ℕ → ℕ
distance from to = (to + 65536 - from) % 65536

-- The free-running index `by` increments after `at`, modulo 65,536.
abbrev pub plus : ℕ → ℕ → ℕ
plus at by = (at + by) % 65536

-- The number in these bytes, the lowest first. A missing byte counts as 0.
abbrev pub word_of : List ℕ → ℕ
word_of [] = 0
word_of (byte ∷ bytes) = byte + 256 * word_of bytes
