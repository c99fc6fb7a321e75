-- Numbers and their bytes.
use Rattle.std.proofs.Common.{◌≡◌, ℕ, zero, suc, ◌+◌, ◌*◌, ◌/◌, ◌%◌, ◌-◌, ◌^◌, ◌<◌, ◌≤◌, List, drop, refl, sym, ◌∙◌, ap, ap₂, subst, arith}
use Rattle.std.specs.Prelude.{slice_index}
use Rattle.std.proofs.lemmas.List.{get_or-drop}
use Rattle.std.proofs.Math.Nat.{div-eq_of_lt, div-div-eq-div-mul, div-one, mod-add-div, mul_comm, pow-le-pow_right, pow-suc}
use Rattle.byteorder.specs.Endian.{little_from}
use Rattle.byteorder.specs.Numbers.{little_from-lt}
use Rattle.pci_space.specs.Numbers.{number_byte, number_from}

-- A number below 2 ^ 64 has no ninth byte.
pub number_byte-past : (n i : ℕ) → n < 2 ^ 64 → 8 ≤ i → 0 ≡ number_byte n i
number_byte-past n i small past =
    let grows : 256 ^ 8 ≤ 256 ^ i = pow-le-pow_right {n = 256} (omega arith) past in
    let none : n / 256 ^ i ≡ 0 = div-eq_of_lt (omega arith) in
    sym (ap (λ q. q % 256) none)

-- The number in the bytes after a place.
pub little_from-drop : (at i n : ℕ) (xs : List ℕ) → little_from i n (drop at xs) ≡ number_from (slice_index xs) (at + i) n
little_from-drop at i zero xs = refl
little_from-drop at i (suc n) xs =
    let next : at + suc i ≡ suc (at + i) = omega arith in
    ap₂ (λ (b r : ℕ). b + 256 * r) (get_or-drop at xs i 0)
    (little_from-drop at (suc i) n xs ∙ ap (λ a. number_from (slice_index xs) a n) next)

-- The same number, from the place itself.
pub little_number-drop : (at n : ℕ) (xs : List ℕ) → little_from 0 n (drop at xs) ≡ number_from (slice_index xs) at n
little_number-drop at n xs =
    let same : at + 0 ≡ at = omega arith in
    little_from-drop at 0 n xs ∙ ap (λ a. number_from (slice_index xs) a n) same

-- Equal bytes within a space make equal numbers.
pub number_from-within : (f g : ℕ → ℕ) (size at n : ℕ) → at + n ≤ size → ((k : ℕ) → k < size → f k ≡ g k) → number_from f at n ≡ number_from g at n
number_from-within f g size at zero inside same = refl
number_from-within f g size at (suc n) inside same =
    ap₂ (λ (b r : ℕ). b + 256 * r) (same at (omega arith)) (number_from-within f g size (suc at) n (omega arith) same)

-- A number in `width` bytes fits them.
pub number_from-fits : (xs : List ℕ) (at n : ℕ) → ((k : ℕ) → slice_index xs k < 256) → number_from (slice_index xs) at n < 256 ^ n
number_from-fits xs at n small =
    subst (λ v. v < 256 ^ n) (little_number-drop at n xs)
    (little_from-lt 0 n (drop at xs) (λ k. subst (λ b. b < 256) (sym (get_or-drop at xs k 0)) (small (at + k))))

-- The part of a number from its byte j on is in the bytes from that one on.
number_from-rest : (n at j count : ℕ) → n / 256 ^ j < 256 ^ count → number_from (λ k. number_byte n (k - at)) (at + j) count ≡ n / 256 ^ j
number_from-rest n at j zero small = omega arith
number_from-rest n at j (suc count) small =
    let shift : n / 256 ^ suc j ≡ n / 256 ^ j / 256 = ap (λ (p : ℕ). n / p) (pow-suc 256 j) ∙ sym (div-div-eq-div-mul n (256 ^ j) 256) in
    let grown : 256 ^ suc count ≡ 256 * 256 ^ count = pow-suc 256 count ∙ mul_comm (256 ^ count) 256 in
    let less : n / 256 ^ suc j < 256 ^ count = omega arith in
    let here : (at + j) - at ≡ j = omega arith in
    let next : suc (at + j) ≡ at + suc j = omega arith in
    ap₂ (λ (b r : ℕ). b + 256 * r) (ap (number_byte n) here)
    (ap (λ a. number_from (λ k. number_byte n (k - at)) a count) next ∙ number_from-rest n at (suc j) count less ∙ shift)
    ∙ mod-add-div (n / 256 ^ j) 256

-- The bytes of a number that fits them make that number.
pub number_from-bytes : (n at count : ℕ) → n < 256 ^ count → number_from (λ k. number_byte n (k - at)) at count ≡ n
number_from-bytes n at count small =
    let from : at + 0 ≡ at = omega arith in
    ap (λ a. number_from (λ k. number_byte n (k - at)) a count) (sym from)
    ∙ number_from-rest n at 0 count (subst (λ m. m < 256 ^ count) (sym (div-one n)) small) ∙ div-one n
