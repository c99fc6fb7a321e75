-- Numbers and their bytes, the lowest byte first.
use Rattle.std.specs.Prelude.{ℕ, zero, suc, ◌+◌, ◌*◌, ◌/◌, ◌%◌, ◌^◌}

-- Byte i of a number, the lowest first.
abbrev pub number_byte : ℕ → ℕ → ℕ
number_byte n i = n / 256 ^ i % 256

-- The number in `count` bytes from offset `at` on; `byte k` is the byte at offset k.
abbrev pub number_from : (ℕ → ℕ) → ℕ → ℕ → ℕ
number_from byte at zero = 0
number_from byte at (suc count) = byte at + 256 * number_from byte (suc at) count
