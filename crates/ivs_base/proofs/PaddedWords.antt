-- A word of fewer than four bytes is the word with its missing bytes 0.
use Rattle.std.proofs.Common.{◌≡◌, ℕ, ◌≤◌, List, [], ◌∷◌, ◌++◌, length, drop, refl, arith}
use Rattle.byteorder.specs.Endian.{little_number}
use Rattle.ivs_base.specs.Numbers.{word_of}

pub word_of-padded : (bytes : List ℕ) → length bytes ≤ 4 →
    little_number 4 (bytes ++ drop (length bytes) (0 ∷ 0 ∷ 0 ∷ 0 ∷ [])) ≡ word_of bytes
word_of-padded [] fits = refl
word_of-padded (a ∷ []) fits = omega arith
word_of-padded (a ∷ b ∷ []) fits = omega arith
word_of-padded (a ∷ b ∷ c ∷ []) fits = omega arith
word_of-padded (a ∷ b ∷ c ∷ d ∷ []) fits = omega arith
word_of-padded (a ∷ b ∷ c ∷ d ∷ e ∷ rest) fits = absurd (omega arith)
