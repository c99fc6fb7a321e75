-- The bytes of a word that was made of four bytes.
use Rattle.std.proofs.Common.{◌≡◌, ℕ, ◌+◌, ◌*◌, ◌/◌, ◌%◌, ◌<◌, arith}

abbrev pub IsByte : ℕ → Type 0
IsByte byte = byte < 256

pub byte_0 : (a b c d : ℕ) → IsByte a → (a + 256 * (b + 256 * (c + 256 * (d + 256 * 0)))) % 256 ≡ a
byte_0 a b c d x = omega arith

pub byte_1 : (a b c d : ℕ) → IsByte a → IsByte b → (a + 256 * (b + 256 * (c + 256 * (d + 256 * 0)))) / 256 % 256 ≡ b
byte_1 a b c d x y = omega arith

pub byte_2 : (a b c d : ℕ) → IsByte a → IsByte b → IsByte c → (a + 256 * (b + 256 * (c + 256 * (d + 256 * 0)))) / 65536 % 256 ≡ c
byte_2 a b c d x y z = omega arith

pub byte_3 : (a b c d : ℕ) → IsByte a → IsByte b → IsByte c → IsByte d → (a + 256 * (b + 256 * (c + 256 * (d + 256 * 0)))) / 16777216 % 256 ≡ d
byte_3 a b c d x y z w = omega arith
