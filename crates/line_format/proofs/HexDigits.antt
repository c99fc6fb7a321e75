-- Hex digits in the kit's definitions: lower case digits decode as they are read here.
use Rattle.std.proofs.Common.{◌≡◌, ℕ, ◌+◌, ◌*◌, ◌/◌, ◌%◌, ◌<◌, Bool, true, false, ◌&&◌, eqb, ltb, List, [], ◌∷◌, ◌++◌, length, get_or, take, drop, Option, Some, None, Result, Ok, Err, refl, sym, ap, ◌∙◌, append_assoc, inl, inr, arith}
use Rattle.std.specs.Prelude.{option_map, option_and_then, unwrap_or, is_some, MatchResult}
use Rattle.std.specs.Option.{option_map_or}
use Rattle.std.specs.List.{list_all}
use Rattle.std.proofs.lemmas.Option.{option_and_then_some}
use Rattle.std.proofs.lemmas.Bool.{eqb-true, ltb-true, cases_lt}
use Rattle.std.proofs.lemmas.List.{append-nil, take-append-drop}
use Rattle.hex.specs.declared.error.FromHexError.{FromHexError}
use Rattle.hex.specs.Hex.{encode_lower, encode_with, hex_digit_value, decode_pairs, decode_sized, pair_value}
use Rattle.hex.proofs.Pairs.{cons_byte, decode_pairs-ok_pair, decode_sized-pairs}
use Rattle.line_format.specs.Forms.{hex_digit, hex_bytes}
use Rattle.line_format.proofs.SpellingsAreRead.{both_true, each_below, some_of, past_digits}

-- ---- digits

abbrev pub is_lower : ℕ → Bool
is_lower c = is_some (hex_digit c)

abbrev reads_same : ℕ → Bool
reads_same c = option_map_or (λ v. ltb v 16 && eqb (unwrap_or (hex_digit_value c) 99) v) (hex_digit c) true

same_digit : (c v : ℕ) → hex_digit c ≡ Some v → hex_digit_value c ≡ Some v
same_digit c v e =
    elim (cases_lt c 128) [
      | inl lt ↦
          let t = both_true (ltb v 16) (eqb (unwrap_or (hex_digit_value c) 99) v) (rw e at (each_below reads_same 128 refl c lt)) in
          let small : v < 16 = ltb-true v 16 t.0 in
          some_of (hex_digit_value c) v (omega arith) (eqb-true _ _ t.1)
      | inr le ↦ absurd (past_digits c v le e)
    ]

digit_is : (c : ℕ) (o : Option ℕ) → hex_digit c ≡ o → is_some o ≡ true → (v : ℕ) × (hex_digit c ≡ Some v)
digit_is c (Some v) is e = (v, is)
digit_is c None is e = absurd cc

-- ---- bytes that are no lower case digits

no_pair : (oh ol : Option ℕ) (rest : Option (List ℕ)) (later : Bool) → (is_some oh && (is_some ol && later)) ≡ false → (later ≡ false → rest ≡ None) →
    option_and_then (λ high. option_and_then (λ low. option_map (λ bytes. (high * 16 + low) ∷ bytes) rest) ol) oh ≡ None
no_pair None ol rest later e none = refl
no_pair (Some h) None rest later e none = refl
no_pair (Some h) (Some l) rest later e none = rw (none e) refl

pub not_lower : (digits : List ℕ) → list_all is_lower digits ≡ false → hex_bytes digits ≡ None
unfolding hex_bytes
not_lower [] e = absurd cc
not_lower (d ∷ []) e = refl
not_lower (h ∷ l ∷ digits) e = no_pair (hex_digit h) (hex_digit l) (hex_bytes digits) (list_all is_lower digits) e (not_lower digits)

-- ---- decoding

abbrev pub ok_of : Result (List ℕ) FromHexError → Option (List ℕ)
ok_of (Ok bytes) = Some bytes
ok_of (Err e) = None

ok_of-cons : (b : ℕ) (r : Result (List ℕ) FromHexError) (rest : Option (List ℕ)) → rest ≡ ok_of r → option_map (λ bytes. b ∷ bytes) rest ≡ ok_of (cons_byte b r)
ok_of-cons b (Ok bytes) rest is = rw is refl
ok_of-cons b (Err e) rest is = rw is refl

pair_of : (h l i high low : ℕ) → hex_digit h ≡ Some high → hex_digit l ≡ Some low → pair_value h l i ≡ Ok (high * 16 + low)
pair_of h l i high low e e' = rw (same_digit h high e, same_digit l low e') refl

two_digits : (h l high low : ℕ) (digits : List ℕ) → hex_digit h ≡ Some high → hex_digit l ≡ Some low → hex_bytes (h ∷ l ∷ digits) ≡ option_map (λ bytes. (high * 16 + low) ∷ bytes) (hex_bytes digits)
unfolding hex_bytes
two_digits h l high low digits e e' = rw (e, e') refl

lower_pairs : (i : ℕ) (digits : List ℕ) → list_all is_lower digits ≡ true → hex_bytes digits ≡ ok_of (decode_pairs i digits)
unfolding hex_bytes decode_pairs
lower_pairs i [] e = refl
lower_pairs i (d ∷ []) e = refl
lower_pairs i (h ∷ l ∷ digits) e =
    let t = both_true (is_lower h) (is_lower l && list_all is_lower digits) e in
    let u = both_true (is_lower l) (list_all is_lower digits) t.1 in
    let high = digit_is h (hex_digit h) refl t.0 in
    let low = digit_is l (hex_digit l) refl u.0 in
    two_digits h l high.0 low.0 digits high.1 low.1
    ∙ ok_of-cons (high.0 * 16 + low.0) (decode_pairs (i + 2) digits) (hex_bytes digits) (lower_pairs (i + 2) digits u.1)
    ∙ ap ok_of (sym (decode_pairs-ok_pair i h l (high.0 * 16 + low.0) digits (pair_of h l i high.0 low.0 high.1 low.1)))

length_mapped : (b : ℕ) (o : Option (List ℕ)) (bytes : List ℕ) (n : ℕ) → option_map (λ more. b ∷ more) o ≡ Some bytes → ((more : List ℕ) → o ≡ Some more → n ≡ 2 * length more) → n + 2 ≡ 2 * length bytes
length_mapped b (Some more) bytes n e later =
    let is : bytes ≡ b ∷ more = cc in
    let rest : n ≡ 2 * length more = later more refl in
    omega (arith, ap length is)
length_mapped b None bytes n e later = absurd cc

-- Two digits spell a byte.
pub hex_bytes-length : (digits bytes : List ℕ) → hex_bytes digits ≡ Some bytes → length digits ≡ 2 * length bytes
unfolding hex_bytes
hex_bytes-length [] bytes e = let is : bytes ≡ [] = cc in omega (arith, ap length is)
hex_bytes-length (d ∷ []) bytes e = absurd cc
hex_bytes-length (h ∷ l ∷ digits) bytes e =
    option_and_then_some (λ high. option_and_then (λ low. option_map (λ more. (high * 16 + low) ∷ more) (hex_bytes digits)) (hex_digit l)) (hex_digit h) bytes e (λ high high-is e'.
    option_and_then_some (λ low. option_map (λ more. (high * 16 + low) ∷ more) (hex_bytes digits)) (hex_digit l) bytes e' (λ low low-is e''.
    let two = length_mapped (high * 16 + low) (hex_bytes digits) bytes (length digits) e'' (λ more is. hex_bytes-length digits more is) in
    omega arith))

odd_none : (digits : List ℕ) (o : Option (List ℕ)) → hex_bytes digits ≡ o → length digits % 2 ≡ 1 → o ≡ None
odd_none digits (Some bytes) is odd = let two = hex_bytes-length digits bytes is in absurd (omega arith)
odd_none digits None is odd = refl

odd_refused : (digits : List ℕ) (n : ℕ) → length digits % 2 ≡ 1 → ok_of (decode_sized digits n) ≡ None
odd_refused digits n odd = rw odd refl

-- Lower case digits decode into half as many bytes.
pub decoded : (digits : List ℕ) (n : ℕ) → list_all is_lower digits ≡ true → length digits / 2 ≡ n → hex_bytes digits ≡ ok_of (decode_sized digits n)
decoded digits n e half =
    elim (cases_lt (length digits % 2) 1) [
      | inl lt ↦ lower_pairs 0 digits e ∙ ap ok_of (sym (decode_sized-pairs digits n (omega arith) half))
      | inr ge ↦ (
          let odd : length digits % 2 ≡ 1 = omega arith in
          odd_none digits (hex_bytes digits) refl odd ∙ sym (odd_refused digits n odd)
          )
    ]

-- ---- writing piece by piece

encode-append : (t xs ys : List ℕ) → encode_with t (xs ++ ys) ≡ encode_with t xs ++ encode_with t ys
unfolding encode_with
encode-append t [] ys = refl
encode-append t (x ∷ xs) ys = ap (λ (r : List ℕ). get_or t (x / 16) 0 ∷ get_or t (x % 16) 0 ∷ r) (encode-append t xs ys)

pub encode_piece : (front rest : List ℕ) (k : ℕ) → (front ++ encode_lower (take k rest)) ++ encode_lower (drop k rest) ≡ front ++ encode_lower rest
encode_piece front rest k =
    append_assoc front (encode_lower (take k rest)) (encode_lower (drop k rest))
    ∙ ap (λ (r : List ℕ). front ++ r) (sym (encode-append _ (take k rest) (drop k rest)) ∙ ap encode_lower (take-append-drop k rest))

pub encode_done : (out total rest : List ℕ) → length rest ≡ 0 → out ++ encode_lower rest ≡ total → out ≡ total
unfolding encode_with
encode_done out total [] none e = sym (append-nil out) ∙ e
encode_done out total (r ∷ rest) none e = absurd (omega arith)

-- ---- the result of decoding

module _ {A : Type 0} (ok : A) (new : List ℕ) (result : Result A FromHexError) where
  pub ok_from : (r : Result (List ℕ) FromHexError) → MatchResult r (λ bytes. (result ≡ Ok ok) × (new ≡ bytes)) (λ e. result ≡ Err e) → (a : A) → result ≡ Ok a → Some new ≡ ok_of r
  ok_from (Ok bytes) h a is = ap (λ (bs : List ℕ). Some bs) h.1
  ok_from (Err e) h a is = absurd (let no : Ok a ≡ Err e = sym is ∙ h in cc)

  pub err_from : (r : Result (List ℕ) FromHexError) → MatchResult r (λ bytes. (result ≡ Ok ok) × (new ≡ bytes)) (λ e. result ≡ Err e) → (e : FromHexError) → result ≡ Err e → None ≡ ok_of r
  err_from (Ok bytes) h e is = absurd (let no : Err e ≡ Ok ok = sym is ∙ h.0 in cc)
  err_from (Err e') h e is = refl
