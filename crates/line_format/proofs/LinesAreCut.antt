-- A line that a form spells is cut into its fields again.
use Rattle.std.proofs.Common.{◌≡◌, ℕ, zero, suc, ◌/◌, ◌%◌, ◌^◌, ◌<◌, Bool, true, false, eqb, ltb, ◌&&◌, List, [], ◌∷◌, ◌++◌, length, get_or, All, refl, ap, ◌∙◌, arith}
use Rattle.std.specs.Prelude.{decimal}
use Rattle.std.specs.List.{list_all}
use Rattle.std.specs.Str.Parse.{AllDigits}
use Rattle.std.proofs.lemmas.Bool.{le-leb, ltb-true, eqb-true}
use Rattle.std.proofs.lemmas.Bool.Decides.{Decides-ltb}
use Rattle.std.proofs.lemmas.Fmt.{decimal_is_IsNumeral}
use Rattle.std.proofs.lemmas.Str.Parse.{digit_from_value}
use Rattle.std.proofs.lemmas.List.Splits.{slice_split_at, slice_split_none}
use Rattle.hex.specs.Hex.{encode_lower, encode_with, lower_digits}
use Rattle.line_format.specs.Forms.{Piece, Word, Number, Hex, spell, Fit, FitBytes, is_form, is_visible, is_printable, cuts, fields_of, line_of}
use Rattle.line_format.proofs.SpellingsAreRead.{both_true, each_below}

abbrev pub is_field : List ℕ → Bool
is_field f = list_all is_visible f

pub are_true : (a b : Bool) → a ≡ true → b ≡ true → (a && b) ≡ true
are_true a b e f = rw (e, f) refl

visible : (b : ℕ) → 32 < b → b < 127 → is_visible b ≡ true
visible b low high = are_true _ _ ((Decides-ltb 32 b).1 low) ((Decides-ltb b 127).1 high)

digits_visible : (ds : List ℕ) → AllDigits 10 ds → is_field ds ≡ true
digits_visible [] all = refl
digits_visible (d ∷ ds) all =
    let r = digit_from_value d all.0 in
    are_true _ _ (visible d (omega arith) (omega arith)) (digits_visible ds all.1)

glyph_visible : (v : ℕ) → v < 16 → is_visible (get_or lower_digits v 0) ≡ true
glyph_visible v lt = each_below (λ v. is_visible (get_or lower_digits v 0)) 16 refl v lt

hex_visible : (bytes : List ℕ) → ((i : ℕ) → get_or bytes i 0 < 256) → is_field (encode_lower bytes) ≡ true
unfolding encode_with
hex_visible [] fits = refl
hex_visible (b ∷ bytes) fits =
    let small : b < 256 = fits 0 in
    are_true _ _ (glyph_visible (b / 16) (omega arith)) (are_true _ _ (glyph_visible (b % 16) (omega arith)) (hex_visible bytes (λ i. fits (suc i))))

pub spell_visible : (ps : List Piece) (ns bytes : List ℕ) → is_form ps ≡ true → Fit ps ns → FitBytes ps bytes → list_all is_field (spell ps ns bytes) ≡ true
spell_visible [] ns bytes form fit hex = refl
spell_visible (Word w ∷ ps) ns bytes form fit hex =
    let t = both_true (list_all is_visible w) (is_form ps) form in
    are_true _ _ t.0 (spell_visible ps ns bytes t.1 fit hex)
spell_visible (Hex ∷ []) ns bytes form fit hex = are_true _ _ (hex_visible bytes hex) refl
spell_visible (Hex ∷ p ∷ ps) ns bytes form fit hex = absurd hex
spell_visible (Number low high ∷ ps) [] bytes form fit hex = absurd fit
spell_visible (Number low high ∷ ps) (n ∷ ns) bytes form fit hex =
    let t = both_true (ltb high (2 ^ 64)) (is_form ps) form in
    let small : n < 2 ^ 64 = omega (arith, fit.1, ltb-true high (2 ^ 64) t.0) in
    are_true _ _ (digits_visible (decimal n) (decimal_is_IsNumeral n small).0.1) (spell_visible ps ns bytes t.1 fit.2 hex)

-- ---- cutting

differs : (b c : ℕ) → (b ≡ c → ⊥) → eqb b c ≡ false
differs b c never = elim (eqb b c) as (λ t. eqb b c ≡ t → eqb b c ≡ false) [
  | true ↦ λ e. absurd (never (eqb-true b c e))
  | false ↦ λ e. e
] refl

at_place : (test : ℕ → Bool) (c : ℕ) → (test c ≡ true → ⊥) → (b : ℕ) (bytes : List ℕ) → test b ≡ true → All (λ b. eqb b c ≡ false) bytes → (k d : ℕ) → k < length (b ∷ bytes) → eqb (get_or (b ∷ bytes) k d) c ≡ false
at_place test c fails b bytes here later zero d lt = differs b c (λ is. fails (rw is at here))
at_place test c fails b bytes here later (suc k) d lt = later k d (omega arith)

-- If each byte passes a test that `c` fails, none is `c`.
pub free_of : (test : ℕ → Bool) (c : ℕ) → (test c ≡ true → ⊥) → (bytes : List ℕ) → list_all test bytes ≡ true → All (λ b. eqb b c ≡ false) bytes
free_of test c fails [] all = λ k d lt. absurd (omega arith)
free_of test c fails (b ∷ bytes) all =
    let t = both_true (test b) (list_all test bytes) all in
    λ k d lt. at_place test c fails b bytes t.0 (free_of test c fails bytes t.1) k d lt

pub fields_of-line_of : (f : List ℕ) (fs : List (List ℕ)) → list_all is_field (f ∷ fs) ≡ true → fields_of (line_of (f ∷ fs)) ≡ f ∷ fs
fields_of-line_of f [] all = slice_split_none (λ b. eqb b 32) f (free_of is_visible 32 (λ e. cc) f (both_true (is_field f) true all).0)
fields_of-line_of f (g ∷ fs) all =
    let t = both_true (is_field f) (list_all is_field (g ∷ fs)) all in
    slice_split_at (λ b. eqb b 32) f 32 (line_of (g ∷ fs)) (free_of is_visible 32 (λ e. cc) f t.0) refl ∙ ap (λ (hs : List (List ℕ)). f ∷ hs) (fields_of-line_of g fs t.1)

list_all-append : (test : ℕ → Bool) (xs ys : List ℕ) → list_all test xs ≡ true → list_all test ys ≡ true → list_all test (xs ++ ys) ≡ true
list_all-append test [] ys e f = f
list_all-append test (x ∷ xs) ys e f =
    let t = both_true (test x) (list_all test xs) e in
    are_true _ _ t.0 (list_all-append test xs ys t.1 f)

field_printable : (f : List ℕ) → is_field f ≡ true → list_all is_printable f ≡ true
field_printable [] e = refl
field_printable (b ∷ f) e =
    let t = both_true (is_visible b) (is_field f) e in
    let r = both_true (ltb 32 b) (ltb b 127) t.0 in
    let low : 32 < b = ltb-true 32 b r.0 in
    let high : b < 127 = ltb-true b 127 r.1 in
    are_true _ _ (are_true _ _ (le-leb 32 b (omega arith)) (le-leb b 126 (omega arith))) (field_printable f t.1)

pub line_printable : (fs : List (List ℕ)) → list_all is_field fs ≡ true → list_all is_printable (line_of fs) ≡ true
line_printable [] all = refl
line_printable (f ∷ []) all = field_printable f (both_true (is_field f) true all).0
line_printable (f ∷ g ∷ fs) all =
    let t = both_true (is_field f) (list_all is_field (g ∷ fs)) all in
    list_all-append is_printable f (32 ∷ line_of (g ∷ fs)) (field_printable f t.0) (line_printable (g ∷ fs) t.1)

-- A line and its newline.
pub cuts-line : (line rest : List ℕ) → list_all is_printable line ≡ true → cuts 10 (line ++ 10 ∷ rest) ≡ line ∷ cuts 10 rest
cuts-line line rest all = slice_split_at (λ b. eqb b 10) line 10 rest (free_of is_printable 10 (λ e. cc) line all) refl
