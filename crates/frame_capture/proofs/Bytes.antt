-- Numbers as bytes, read and written in one order.
use Rattle.std.proofs.Common.{◌≡◌, ℕ, zero, suc, ◌^◌, ◌<◌, ◌≤◌, List, [], ◌∷◌, ◌++◌, length, get_or, take, refl, arith}
use Rattle.std.proofs.lemmas.Nat.{le_bytes_2, be_bytes_2, le_bytes_4, be_bytes_4}
use Rattle.byteorder.specs.Numbers.{big_number-reads_back, little_number-reads_back}
use Rattle.frame_capture.specs.declared.order.Order.{Order}
use Rattle.frame_capture.specs.declared.order.Order.TheVariants.{Little, Big}
use Rattle.frame_capture.specs.CaptureFile.{bytes_of, number_of}

-- Every byte is below 256.
abbrev pub AreBytes : List ℕ → Type 0
AreBytes bytes = (i : ℕ) → get_or bytes i 0 < 256

-- A number that is written is read again.
pub read-written : (order : Order) (width number : ℕ) (left : List ℕ) → number < 256 ^ width
    → number_of order width (bytes_of order width number ++ left) ≡ number
read-written Little width number left fits = little_number-reads_back width number left fits
read-written Big width number left fits = big_number-reads_back width number left fits

four : (a b c d : ℕ) → AreBytes (a ∷ b ∷ c ∷ d ∷ []) → (order : Order) (left : List ℕ)
    → bytes_of order 4 (number_of order 4 (a ∷ b ∷ c ∷ d ∷ left)) ≡ a ∷ b ∷ c ∷ d ∷ []
four a b c d small Little left = le_bytes_4 (a ∷ b ∷ c ∷ d ∷ []) _ refl small (omega arith)
four a b c d small Big left = be_bytes_4 (a ∷ b ∷ c ∷ d ∷ []) _ refl small (omega arith)

first_four : (a b c d : ℕ) (left : List ℕ) → AreBytes (a ∷ b ∷ c ∷ d ∷ left) → AreBytes (a ∷ b ∷ c ∷ d ∷ [])
first_four a b c d left small zero = small 0
first_four a b c d left small (suc zero) = small 1
first_four a b c d left small (suc (suc zero)) = small 2
first_four a b c d left small (suc (suc (suc zero))) = small 3
first_four a b c d left small (suc (suc (suc (suc i)))) = omega arith

-- Bytes that are read as a number are written again.
pub written-read : (order : Order) (bytes : List ℕ) → AreBytes bytes → 4 ≤ length bytes → bytes_of order 4 (number_of order 4 bytes) ≡ take 4 bytes
written-read order [] small long = absurd (omega arith)
written-read order (a ∷ []) small long = absurd (omega arith)
written-read order (a ∷ b ∷ []) small long = absurd (omega arith)
written-read order (a ∷ b ∷ c ∷ []) small long = absurd (omega arith)
written-read order (a ∷ b ∷ c ∷ d ∷ left) small long = four a b c d (first_four a b c d left small) order left

two : (a b : ℕ) → AreBytes (a ∷ b ∷ []) → (order : Order) (left : List ℕ) → bytes_of order 2 (number_of order 2 (a ∷ b ∷ left)) ≡ a ∷ b ∷ []
two a b small Little left = le_bytes_2 (a ∷ b ∷ []) _ refl small (omega arith)
two a b small Big left = be_bytes_2 (a ∷ b ∷ []) _ refl small (omega arith)

first_two : (a b : ℕ) (left : List ℕ) → AreBytes (a ∷ b ∷ left) → AreBytes (a ∷ b ∷ [])
first_two a b left small zero = small 0
first_two a b left small (suc zero) = small 1
first_two a b left small (suc (suc i)) = omega arith

-- The same for 16 bits.
pub written-read16 : (order : Order) (bytes : List ℕ) → AreBytes bytes → 2 ≤ length bytes → bytes_of order 2 (number_of order 2 bytes) ≡ take 2 bytes
written-read16 order [] small long = absurd (omega arith)
written-read16 order (a ∷ []) small long = absurd (omega arith)
written-read16 order (a ∷ b ∷ left) small long = two a b (first_two a b left small) order left
