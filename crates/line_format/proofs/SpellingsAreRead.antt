-- A form's spelling is read again, and what is read is what the form spells.
use Rattle.std.proofs.Common.{◌≡◌, ℕ, zero, suc, ◌+◌, ◌-◌, ◌*◌, ◌/◌, ◌%◌, ◌^◌, ◌<◌, ◌≤◌, Bool, true, false, cond, eqb, leb, ltb, ◌&&◌, List, [], ◌∷◌, get_or, Option, Some, None, refl, sym, ap, subst, arith, inl, inr}
use Rattle.std.specs.Prelude.{option_map, option_and_then, decimal}
use Rattle.std.specs.List.{list_all}
use Rattle.std.specs.Str.{bytes_eq}
use Rattle.std.proofs.lemmas.Bool.{leb-true, le-leb, lt-leb, ltb-true, eqb-true, cases_lt}
use Rattle.std.proofs.lemmas.Bool.Decides.{Decides-below_and}
use Rattle.std.specs.Prelude.{unwrap_or}
use Rattle.std.specs.Option.{option_map_or}
use Rattle.std.proofs.lemmas.Option.{option_and_then_some}
use Rattle.std.proofs.lemmas.Slice.Eq.{bytes_eq-Decides}
use Rattle.hex.specs.Hex.{encode_lower, encode_with, lower_digits}
use Rattle.line_format.specs.Numbers.{number_of}
use Rattle.line_format.specs.Forms.{Piece, Word, Number, Hex, matches, numbers_of, hex_of, hex_digit, hex_bytes, spell, Fit, FitBytes, is_form, is_visible}
use Rattle.line_format.proofs.DecimalFields.{number_of-decimal, number_of-some}
use Rattle.line_format.proofs.FormNumbers.{guarded}

pub both_true : (a b : Bool) → (a && b) ≡ true → (a ≡ true) × (b ≡ true)
both_true true true e = (refl, refl)
both_true true false e = absurd cc
both_true false b e = absurd cc

-- ---- from values to fields

pub matches-spell : (ps : List Piece) (ns bytes : List ℕ) → Fit ps ns → matches ps (spell ps ns bytes) ≡ true
matches-spell [] ns bytes fit = refl
matches-spell (Word w ∷ ps) ns bytes fit = rw (((bytes_eq-Decides w w).1 refl), matches-spell ps ns bytes fit) refl
matches-spell (Hex ∷ ps) ns bytes fit = matches-spell ps ns bytes fit
matches-spell (Number low high ∷ ps) [] bytes fit = absurd fit
matches-spell (Number low high ∷ ps) (n ∷ ns) bytes fit = matches-spell ps ns bytes fit.2

pub numbers_of-spell : (ps : List Piece) (ns bytes : List ℕ) → is_form ps ≡ true → Fit ps ns → numbers_of ps (spell ps ns bytes) ≡ Some ns
numbers_of-spell [] [] bytes form fit = refl
numbers_of-spell [] (n ∷ ns) bytes form fit = absurd fit
numbers_of-spell (Word w ∷ ps) ns bytes form fit = numbers_of-spell ps ns bytes (both_true (list_all is_visible w) (is_form ps) form).1 fit
numbers_of-spell (Hex ∷ []) [] bytes form fit = refl
numbers_of-spell (Hex ∷ []) (n ∷ ns) bytes form fit = absurd fit
numbers_of-spell (Hex ∷ p ∷ ps) ns bytes form fit = absurd cc
numbers_of-spell (Number low high ∷ ps) [] bytes form fit = absurd fit
numbers_of-spell (Number low high ∷ ps) (n ∷ ns) bytes form fit =
    let f = both_true (ltb high (2 ^ 64)) (is_form ps) form in
    let small : n < 2 ^ 64 = omega (arith, fit.1, ltb-true high (2 ^ 64) f.0) in
    rw (number_of-decimal n small, le-leb low n fit.0, le-leb n high fit.1, numbers_of-spell ps ns bytes f.1 fit.2) refl

-- ---- from fields to values

no_more : (fs : List (List ℕ)) → matches [] fs ≡ true → fs ≡ []
no_more [] e = refl
no_more (f ∷ fs) e = absurd cc

some_is : (xs ys : List ℕ) → ◌≡◌ {A = Option (List ℕ)} (Some xs) (Some ys) → ys ≡ xs
some_is xs ys e = cc

mapped : (b : ℕ) (o : Option (List ℕ)) (ys : List ℕ) → option_map (λ bytes. b ∷ bytes) o ≡ Some ys → (xs : List ℕ) × (o ≡ Some xs) × (ys ≡ b ∷ xs)
mapped b (Some xs) ys e = (xs, refl, cc)
mapped b None ys e = absurd cc

none_here : (a b : Bool) (x y v : ℕ) → cond (a && false) (Some x) (cond (b && false) (Some y) None) ≡ Some v → ⊥
none_here true true x y v e = cc
none_here true false x y v e = cc
none_here false true x y v e = cc
none_here false false x y v e = cc

first_byte : (b : ℕ) (bytes : List ℕ) → b < 256 → ((i : ℕ) → get_or bytes i 0 < 256) → (i : ℕ) → get_or (b ∷ bytes) i 0 < 256
first_byte b bytes small later zero = small
first_byte b bytes small later (suc i) = later i

-- Whether each number below a bound passes a test, as a function.
abbrev pub below : (ℕ → Bool) → ℕ → Bool
below test zero = true
below test (suc n) = test n && below test n

pub each_below : (test : ℕ → Bool) (n : ℕ) → below test n ≡ true → (k : ℕ) → k < n → test k ≡ true
each_below test n all = (Decides-below_and test (λ k. test k ≡ true) (below test) (λ k. ((λ e. e), (λ e. e))) refl (λ m. refl) n).0 all

abbrev is_glyph : ℕ → Bool
is_glyph v = eqb (unwrap_or (hex_digit (get_or lower_digits v 0)) 99) v

abbrev reads_right : ℕ → Bool
reads_right c = option_map_or (λ v. ltb v 16 && eqb (get_or lower_digits v 0) c) (hex_digit c) true

pub some_of : (o : Option ℕ) (v : ℕ) → v < 99 → unwrap_or o 99 ≡ v → o ≡ Some v
some_of (Some w) v lt e = ap (λ (k : ℕ). Some k) e
some_of None v lt e = absurd (omega arith)

digit_of : (v : ℕ) → v < 16 → hex_digit (get_or lower_digits v 0) ≡ Some v
digit_of v lt = some_of (hex_digit (get_or lower_digits v 0)) v (omega arith) (eqb-true _ _ (each_below is_glyph 16 refl v lt))

pub past_digits : (c v : ℕ) → 128 ≤ c → hex_digit c ≡ Some v → ⊥
past_digits c v le e =
    let low : leb c 57 ≡ false = lt-leb c 57 (omega arith) in
    let high : leb c 102 ≡ false = lt-leb c 102 (omega arith) in
    none_here (leb 48 c) (leb 97 c) (c - 48) (c - 87) v (rw (low, high) at e)

glyph_of : (c v : ℕ) → hex_digit c ≡ Some v → (v < 16) × (get_or lower_digits v 0 ≡ c)
glyph_of c v e =
    elim (cases_lt c 128) [
      | inl lt ↦
          let t = both_true (ltb v 16) (eqb (get_or lower_digits v 0) c) (rw e at (each_below reads_right 128 refl c lt)) in
          (ltb-true v 16 t.0, eqb-true _ _ t.1)
      | inr le ↦ absurd (past_digits c v le e)
    ]

pub hex_bytes-some : (digits bytes : List ℕ) → hex_bytes digits ≡ Some bytes → (digits ≡ encode_lower bytes) × ((i : ℕ) → get_or bytes i 0 < 256)
unfolding hex_bytes encode_with
hex_bytes-some [] bytes e = rw (some_is [] bytes e) (refl, λ i. omega arith)
hex_bytes-some (d ∷ []) bytes e = absurd cc
hex_bytes-some (h ∷ l ∷ digits) bytes e =
    option_and_then_some (λ high. option_and_then (λ low. option_map (λ bytes. (high * 16 + low) ∷ bytes) (hex_bytes digits)) (hex_digit l)) (hex_digit h) bytes e (λ high high-is e'.
    option_and_then_some (λ low. option_map (λ bytes. (high * 16 + low) ∷ bytes) (hex_bytes digits)) (hex_digit l) bytes e' (λ low low-is e''.
    let m = mapped (high * 16 + low) (hex_bytes digits) bytes e'' in
    let later = hex_bytes-some digits m.0 m.1 in
    let hi = glyph_of h high high-is in
    let lo = glyph_of l low low-is in
    let up : (high * 16 + low) / 16 ≡ high = omega (arith, hi.0, lo.0) in
    let down : (high * 16 + low) % 16 ≡ low = omega (arith, hi.0, lo.0) in
    let P : List ℕ → Type 0 = λ bs. (h ∷ l ∷ digits ≡ encode_lower bs) × ((i : ℕ) → get_or bs i 0 < 256) in
    subst P (sym m.2) (rw (up, down, hi.1, lo.1) (ap (λ (t : List ℕ). h ∷ l ∷ t) later.0), first_byte (high * 16 + low) m.0 (omega (arith, hi.0, lo.0)) later.1)))

pub hex_bytes-encode : (bytes : List ℕ) → ((i : ℕ) → get_or bytes i 0 < 256) → hex_bytes (encode_lower bytes) ≡ Some bytes
unfolding hex_bytes encode_with
hex_bytes-encode [] fits = refl
hex_bytes-encode (b ∷ bytes) fits =
    let small : b < 256 = fits 0 in
    let hi : b / 16 < 16 = omega arith in
    let lo : b % 16 < 16 = omega arith in
    let whole : b / 16 * 16 + b % 16 ≡ b = omega arith in
    rw (digit_of (b / 16) hi, digit_of (b % 16) lo, hex_bytes-encode bytes (λ i. fits (suc i))) (ap (λ (k : ℕ). Some (k ∷ bytes)) whole)

pub record IsSpelled (ps : List Piece) (fs : List (List ℕ)) (ns bytes : List ℕ) : Type 0 where
  pub fields : fs ≡ spell ps ns bytes
  pub numbers : Fit ps ns
  pub hex : FitBytes ps bytes

pub spelled : (ps : List Piece) (fs : List (List ℕ)) (ns bytes : List ℕ) → is_form ps ≡ true → matches ps fs ≡ true → numbers_of ps fs ≡ Some ns → hex_bytes (hex_of ps fs) ≡ Some bytes → IsSpelled ps fs ns bytes
unfolding hex_bytes
spelled [] [] ns bytes form m e h = rw (some_is [] ns e, some_is [] bytes h) (record { fields = refl; numbers = tt; hex = refl })
spelled [] (f ∷ fs) ns bytes form m e h = absurd cc
spelled (Word w ∷ ps) [] ns bytes form m e h = absurd cc
spelled (Number low high ∷ ps) [] ns bytes form m e h = absurd cc
spelled (Hex ∷ ps) [] ns bytes form m e h = absurd cc
spelled (Word w ∷ ps) (f ∷ fs) ns bytes form m e h =
    let t = both_true (bytes_eq w f) (matches ps fs) m in
    let later = spelled ps fs ns bytes (both_true (list_all is_visible w) (is_form ps) form).1 t.1 e h in
    record { fields = rw (← (bytes_eq-Decides w f).0 t.0) (ap (λ (gs : List (List ℕ)). w ∷ gs) later.fields); numbers = later.numbers; hex = later.hex }
spelled (Hex ∷ []) (f ∷ fs) ns bytes form m e h =
    let t = hex_bytes-some f bytes h in
    rw (some_is [] ns e) (record { fields = rw (no_more fs m) (ap (λ (g : List ℕ). g ∷ []) t.0); numbers = tt; hex = t.1 })
spelled (Hex ∷ p ∷ ps) (f ∷ fs) ns bytes form m e h = absurd cc
spelled (Number low high ∷ ps) (f ∷ fs) ns bytes form m e h =
    option_and_then_some (λ n. cond (leb low n && leb n high) (option_map (λ ms. n ∷ ms) (numbers_of ps fs)) None) (number_of f) ns e (λ n is rest.
    let g = guarded (leb low n) (leb n high) n (numbers_of ps fs) ns rest in
    let later = spelled ps fs g.2 bytes (both_true (ltb high (2 ^ 64)) (is_form ps) form).1 m g.3 h in
    let P : List ℕ → Type 0 = λ ms. IsSpelled (Number low high ∷ ps) (f ∷ fs) ms bytes in
    subst P (sym g.4) (record { fields = rw ((number_of-some f n is).0) (ap (λ (gs : List (List ℕ)). decimal n ∷ gs) later.fields); numbers = (leb-true low n g.0, leb-true n high g.1, later.numbers); hex = later.hex }))
