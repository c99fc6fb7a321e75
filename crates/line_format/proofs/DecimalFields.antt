-- A field is a number exactly if it is the decimal spelling of one.
use Rattle.std.proofs.Common.{◌≡◌, ℕ, ◌+◌, ◌-◌, ◌*◌, ◌^◌, ◌<◌, ◌≤◌, Bool, true, false, cond, ltb, ◌&&◌, List, [], ◌∷◌, length, get_or, take, Some, None, refl, sym, ap, subst, ◌∙◌, arith, inl, inr}
use Rattle.std.specs.Prelude.{decimal}
use Rattle.std.specs.Str.{bytes_eq}
use Rattle.std.specs.Str.Parse.{digits_value, AllDigits}
use Rattle.std.specs.Int.{IsInRange}
use Rattle.std.proofs.lemmas.Bool.{cases_lt}
use Rattle.std.proofs.lemmas.Bool.Decides.{Decides-ltb}
use Rattle.std.proofs.lemmas.Fmt.{decimal_is_IsNumeral, decimal_nonempty, decimal_digit, first_decimal, decimal-digits_value}
use Rattle.std.proofs.lemmas.Str.Parse.{numerals_by_value, tells_digits, digit_at, digits_value-take-le}
use Rattle.std.proofs.lemmas.Slice.Eq.{bytes_eq-Decides}
use Rattle.std.proofs.lemmas.Int.Digits.{digits_value_more}
use Rattle.std.proofs.lemmas.Str.{digit_value_digit}
use Rattle.line_format.specs.Numbers.{number_of}

abbrev IsSmall : ℕ → Type 0
IsSmall n = n < 2 ^ 64

pub number_of-decimal : (n : ℕ) → n < 2 ^ 64 → number_of (decimal n) ≡ Some n
unfolding number_of
number_of-decimal n small =
    let value : digits_value 10 (decimal n) ≡ n = (decimal_is_IsNumeral n small).1 in
    let same : bytes_eq (decimal n) (decimal n) ≡ true = (bytes_eq-Decides (decimal n) (decimal n)).1 refl in
    let below : ltb n (2 ^ 64) ≡ true = (Decides-ltb n (2 ^ 64)).1 small in
    rw (value, same, below) refl

both : (a b : Bool) (x y : ℕ) → cond (a && b) (Some x) None ≡ Some y → (a ≡ true) × (b ≡ true) × (x ≡ y)
both true true x y e = (refl, refl, cc)
both true false x y e = absurd cc
both false b x y e = absurd cc

pub number_of-some : (field : List ℕ) (n : ℕ) → number_of field ≡ Some n → (field ≡ decimal n) × (n < 2 ^ 64)
unfolding number_of
number_of-some field n e =
    let v = digits_value 10 field in
    let t = both (bytes_eq field (decimal v)) (ltb v (2 ^ 64)) v n e in
    let spelled : field ≡ decimal v = (bytes_eq-Decides field (decimal v)).0 t.0 in
    let below : v < 2 ^ 64 = (Decides-ltb v (2 ^ 64)).0 t.1 in
    (spelled ∙ ap decimal t.2, subst IsSmall t.2 below)

pub none_unless : (field : List ℕ) → ((n : ℕ) → n < 2 ^ 64 → field ≡ decimal n → ⊥) → number_of field ≡ None
none_unless field never =
    elim (number_of field) as (λ o. number_of field ≡ o → number_of field ≡ None) [
      | Some n ↦ λ is. let t = number_of-some field n is in absurd (never n t.1 t.0)
      | None ↦ λ is. is
    ] refl

pub empty_is_none : number_of [] ≡ None
empty_is_none = none_unless [] (λ n small is. let h : 0 < length (decimal n) = decimal_nonempty n small in let z : 0 ≡ length (decimal n) = ap length is in omega arith)

pub zero_first : (field : List ℕ) → get_or field 0 0 ≡ 48 → 1 < length field → number_of field ≡ None
zero_first field first long = none_unless field (λ n small is.
    elim (cases_lt 0 n) [
      | inl positive ↦ let h : 48 < get_or (decimal n) 0 0 = first_decimal n positive small in let s : get_or field 0 0 ≡ get_or (decimal n) 0 0 = ap (λ (t : List ℕ). get_or t 0 0) is in omega arith
      | inr zero ↦ let one : n ≡ 0 = omega arith in let d : decimal n ≡ (48 + n) ∷ [] = decimal_digit n (omega arith) in let s : length field ≡ 1 = ap length (is ∙ d) in omega arith
    ])

digits_of_number : (field : List ℕ) (n : ℕ) → n < 2 ^ 64 → field ≡ decimal n → AllDigits 10 field × (digits_value 10 field ≡ n)
digits_of_number field n small is =
    let h = decimal_is_IsNumeral n small in
    subst (λ (t : List ℕ). AllDigits 10 t × (digits_value 10 t ≡ n)) (sym is) (h.0.1, h.1)

pub other_byte : (field : List ℕ) (i : ℕ) → i < length field → (IsInRange 48 57 (get_or field i 0) → ⊥) → number_of field ≡ None
other_byte field i lt never = none_unless field (λ n small is. never (digit_at field i (digits_of_number field n small is).0 lt))

pub too_large : (field : List ℕ) (i : ℕ) → 2 ^ 64 ≤ digits_value 10 (take i field) → number_of field ≡ None
too_large field i large = none_unless field (λ n small is.
    let v = (digits_of_number field n small is).1 in
    let le : digits_value 10 (take i field) ≤ digits_value 10 field = digits_value-take-le 10 field i (omega arith) in
    omega arith)

pub is_number : (field : List ℕ) (n : ℕ) → n < 2 ^ 64 → 0 < length field → (get_or field 0 0 ≡ 48 → 1 < length field → ⊥) → AllDigits 10 field → n ≡ digits_value 10 field → number_of field ≡ Some n
is_number field n small some first digits value =
    let one : get_or field 0 0 ≡ 48 → length field ≡ 1 = λ is. (elim (cases_lt 1 (length field)) [ inl more ↦ absurd (first is more) | inr few ↦ omega arith ]) in
    let small' : digits_value 10 field < 2 ^ 64 = subst IsSmall value small in
    let spelled : decimal (digits_value 10 field) ≡ field = decimal-digits_value (numerals_by_value (AllDigits 10) tells_digits) field digits some one small' in
    ap number_of (sym spelled ∙ ap decimal (sym value)) ∙ number_of-decimal n small

-- One more digit.
pub one_more : (field : List ℕ) (i n : ℕ) → i < length field → n ≡ digits_value 10 (take i field) → IsInRange 48 57 (get_or field i 0) → n * 10 + (get_or field i 0 - 48) ≡ digits_value 10 (take (i + 1) field)
one_more field i n lt is digit =
    let more = digits_value_more 10 field i lt in
    let value = digit_value_digit (get_or field i 0) digit in
    omega arith

pub too_large_at : (field : List ℕ) (i n k : ℕ) → i < length field → n ≡ digits_value 10 (take i field) → IsInRange 48 57 (get_or field i 0) → k ≤ get_or field i 0 - 48 → (n * 10 + k < 2 ^ 64 → ⊥) → number_of field ≡ None
too_large_at field i n k lt is digit le never =
    let v = one_more field i n lt is digit in
    elim (cases_lt (n * 10 + k) (2 ^ 64)) [
      | inl small ↦ absurd (never small)
      | inr large ↦ too_large field (i + 1) (omega arith)
    ]
