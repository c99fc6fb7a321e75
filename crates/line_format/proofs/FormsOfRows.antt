-- Tables of forms: a row's fields have the row's form and no other.
use Rattle.std.proofs.Common.{◌≡◌, ℕ, zero, suc, ◌<◌, ◌≤◌, Bool, true, false, cond, ltb, leb, eqb, ◌&&◌, not, List, [], ◌∷◌, length, Some, None, refl, sym, ap, subst, ◌∙◌, arith}
use Rattle.std.specs.Prelude.{slice_get}
use Rattle.std.specs.List.{find, list_all}
use Rattle.std.specs.Str.{bytes_eq}
use Rattle.std.proofs.lemmas.Bool.{ltb-true, leb-true, eqb-true}
use Rattle.line_format.specs.Forms.{Piece, Word, Number, Hex, matches, spell, Fit, is_form}
use Rattle.line_format.specs.Rows.{find_form, overlaps, are_apart}
use Rattle.line_format.proofs.SpellingsAreRead.{both_true, matches-spell}
use Rattle.line_format.proofs.TestChains.{not_true, same_some}

-- Each form is in the list, no fields match two forms, and each form is allowed.
pub record IsTable {F : Type 0} (pieces_of : F → List Piece) (forms : List F) : Type 0 where
  pub place : F → ℕ
  pub listed : (f : F) → slice_get forms (place f) ≡ Some f
  pub apart : are_apart pieces_of forms ≡ true
  pub good : (f : F) → is_form (pieces_of f) ≡ true
  pub few : (f : F) → length (pieces_of f) ≤ 6
  pub some : (f : F) → 0 < length (pieces_of f)

and_false : (a b : Bool) → b ≡ false → (a && b) ≡ false
and_false true b e = e
and_false false b e = refl

one_false : (a b c : Bool) → (a && b) ≡ false → (b ≡ false → c ≡ false) → (a && c) ≡ false
one_false true b c e f = f e
one_false false b c e f = refl

apart_from : (ps qs : List Piece) (ns bytes : List ℕ) → overlaps ps qs ≡ false → Fit qs ns → matches ps (spell qs ns bytes) ≡ false
apart_from [] [] ns bytes e fit = absurd cc
apart_from (Word v ∷ ps) [] ns bytes e fit = refl
apart_from (Number low high ∷ ps) [] ns bytes e fit = refl
apart_from (Hex ∷ ps) [] ns bytes e fit = refl
apart_from [] (Word w ∷ qs) ns bytes e fit = refl
apart_from [] (Hex ∷ qs) ns bytes e fit = refl
apart_from [] (Number low high ∷ qs) [] bytes e fit = absurd fit
apart_from [] (Number low high ∷ qs) (n ∷ ns) bytes e fit = refl
apart_from (p ∷ ps) (Number low high ∷ qs) [] bytes e fit = absurd fit
apart_from (Word v ∷ ps) (Word w ∷ qs) ns bytes e fit = one_false (bytes_eq v w) (overlaps ps qs) (matches ps (spell qs ns bytes)) e (λ f. apart_from ps qs ns bytes f fit)
apart_from (Word v ∷ ps) (Hex ∷ qs) ns bytes e fit = and_false _ _ (apart_from ps qs ns bytes e fit)
apart_from (Word v ∷ ps) (Number low high ∷ qs) (n ∷ ns) bytes e fit = and_false _ _ (apart_from ps qs ns bytes e fit.2)
apart_from (Number l h ∷ ps) (Word w ∷ qs) ns bytes e fit = apart_from ps qs ns bytes e fit
apart_from (Number l h ∷ ps) (Hex ∷ qs) ns bytes e fit = apart_from ps qs ns bytes e fit
apart_from (Number l h ∷ ps) (Number low high ∷ qs) (n ∷ ns) bytes e fit = apart_from ps qs ns bytes e fit.2
apart_from (Hex ∷ ps) (Word w ∷ qs) ns bytes e fit = apart_from ps qs ns bytes e fit
apart_from (Hex ∷ ps) (Hex ∷ qs) ns bytes e fit = apart_from ps qs ns bytes e fit
apart_from (Hex ∷ ps) (Number low high ∷ qs) (n ∷ ns) bytes e fit = apart_from ps qs ns bytes e fit.2

passes_at : {F : Type 0} (test : F → Bool) (fs : List F) (i : ℕ) (f : F) → list_all test fs ≡ true → slice_get fs i ≡ Some f → test f ≡ true
passes_at test [] i f all is = absurd cc
passes_at test (g ∷ fs) zero f all is = subst (λ x. test x ≡ true) (same_some g f is) (both_true (test g) (list_all test fs) all).0
passes_at test (g ∷ fs) (suc i) f all is = passes_at test fs i f (both_true (test g) (list_all test fs) all).1 is

finds_at : {F : Type 0} (pieces_of : F → List Piece) (fs : List F) (i : ℕ) (f : F) (ns bytes : List ℕ) → are_apart pieces_of fs ≡ true → slice_get fs i ≡ Some f → Fit (pieces_of f) ns
    → find (λ g. matches (pieces_of g) (spell (pieces_of f) ns bytes)) fs ≡ Some f
finds_at pieces_of [] i f ns bytes all is fit = absurd cc
finds_at pieces_of (g ∷ fs) zero f ns bytes all is fit =
    let same : g ≡ f = same_some g f is in
    let here : matches (pieces_of g) (spell (pieces_of f) ns bytes) ≡ true = subst (λ x. matches (pieces_of x) (spell (pieces_of f) ns bytes) ≡ true) (sym same) (matches-spell (pieces_of f) ns bytes fit) in
    rw here (ap (λ x. Some x) same)
finds_at pieces_of (g ∷ fs) (suc i) f ns bytes all is fit =
    let t = both_true (list_all (λ h. not (overlaps (pieces_of g) (pieces_of h))) fs) (are_apart pieces_of fs) all in
    let other : overlaps (pieces_of g) (pieces_of f) ≡ false = not_true _ (passes_at (λ h. not (overlaps (pieces_of g) (pieces_of h))) fs i f t.0 is) in
    rw (apart_from (pieces_of g) (pieces_of f) ns bytes other fit) (finds_at pieces_of fs i f ns bytes t.1 is fit)

-- The fields of a form with its numbers have that form and no other.
pub finds : {F : Type 0} (pieces_of : F → List Piece) (forms : List F) → IsTable pieces_of forms → (f : F) (ns bytes : List ℕ) → Fit (pieces_of f) ns → find_form pieces_of forms (spell (pieces_of f) ns bytes) ≡ Some f
unfolding find_form
finds pieces_of forms table f ns bytes fit = finds_at pieces_of forms (table.place f) f ns bytes table.apart (table.listed f) fit

-- A form that is found has these words and this number of fields.
here : {F : Type 0} (pieces_of : F → List Piece) (b : Bool) (g : F) (forms : List F) (fs : List (List ℕ)) (f : F) → matches (pieces_of g) fs ≡ b → ((find (λ h. matches (pieces_of h) fs) forms ≡ Some f) → matches (pieces_of f) fs ≡ true) → cond b (Some g) (find (λ h. matches (pieces_of h) fs) forms) ≡ Some f → matches (pieces_of f) fs ≡ true
here pieces_of true g forms fs f is later e = let same : g ≡ f = cc in subst (λ x. matches (pieces_of x) fs ≡ true) same is
here pieces_of false g forms fs f is later e = later e

found_in : {F : Type 0} (pieces_of : F → List Piece) (forms : List F) (fs : List (List ℕ)) (f : F) → find (λ h. matches (pieces_of h) fs) forms ≡ Some f → matches (pieces_of f) fs ≡ true
found_in pieces_of [] fs f e = absurd cc
found_in pieces_of (g ∷ forms) fs f e = here pieces_of (matches (pieces_of g) fs) g forms fs f refl (found_in pieces_of forms fs f) e

pub found : {F : Type 0} (pieces_of : F → List Piece) (forms : List F) (fs : List (List ℕ)) (f : F) → find_form pieces_of forms fs ≡ Some f → matches (pieces_of f) fs ≡ true
unfolding find_form
found pieces_of forms fs f e = found_in pieces_of forms fs f e

-- A form has as many fields as pieces.
too_many : (ps : List Piece) (fs : List (List ℕ)) → length ps < length fs → matches ps fs ≡ false
too_many [] [] lt = absurd (omega arith)
too_many [] (f ∷ fs) lt = refl
too_many (p ∷ ps) [] lt = absurd (omega arith)
too_many (Word w ∷ ps) (f ∷ fs) lt = and_false (bytes_eq w f) _ (too_many ps fs (omega arith))
too_many (Number low high ∷ ps) (f ∷ fs) lt = too_many ps fs (omega arith)
too_many (Hex ∷ ps) (f ∷ fs) lt = too_many ps fs (omega arith)

none_of : {F : Type 0} (pieces_of : F → List Piece) → ((f : F) → length (pieces_of f) ≤ 6) → (forms : List F) (fs : List (List ℕ)) → 6 < length fs → find (λ f. matches (pieces_of f) fs) forms ≡ None
none_of pieces_of few [] fs lt = refl
none_of pieces_of few (f ∷ forms) fs lt = rw (too_many (pieces_of f) fs (let le = few f in omega arith)) (none_of pieces_of few forms fs lt)

pub no_form : {F : Type 0} (pieces_of : F → List Piece) (forms : List F) → IsTable pieces_of forms → (fs : List (List ℕ)) → 6 < length fs → find_form pieces_of forms fs ≡ None
unfolding find_form
no_form pieces_of forms table fs lt = none_of pieces_of table.few forms fs lt

pub no_form_of_few : {F : Type 0} (pieces_of : F → List Piece) (forms : List F) → ((f : F) → length (pieces_of f) ≤ 6) → (fs : List (List ℕ)) → 6 < length fs → find_form pieces_of forms fs ≡ None
unfolding find_form
no_form_of_few pieces_of forms few fs lt = none_of pieces_of few forms fs lt

-- ---- how a text shows that its forms are a table

-- Each form is allowed and has 1 to 6 fields.
abbrev are_good : {F : Type 0} → (F → List Piece) → List F → Bool
are_good pieces_of fs = list_all (λ f. is_form (pieces_of f) && (ltb 0 (length (pieces_of f)) && leb (length (pieces_of f)) 6)) fs

-- The place of the first form that the fields of this form can match.
abbrev pub place_of : {F : Type 0} → (F → List Piece) → List F → F → ℕ
place_of pieces_of [] f = 0
place_of pieces_of (g ∷ gs) f = cond (overlaps (pieces_of g) (pieces_of f)) 0 (suc (place_of pieces_of gs f))

-- A list of forms is a table if it has each form, no fields match two forms, and each form is good.
pub table : {F : Type 0} (pieces_of : F → List Piece) (forms : List F) → ((f : F) → slice_get forms (place_of pieces_of forms f) ≡ Some f) → are_apart pieces_of forms ≡ true → are_good pieces_of forms ≡ true → IsTable pieces_of forms
table {F} pieces_of forms listed apart all =
    let place = place_of pieces_of forms in
    let each = λ (f : F). both_true (is_form (pieces_of f)) (ltb 0 (length (pieces_of f)) && leb (length (pieces_of f)) 6) (passes_at (λ g. is_form (pieces_of g) && (ltb 0 (length (pieces_of g)) && leb (length (pieces_of g)) 6)) forms (place f) f all (listed f)) in
    record {
      place = place;
      listed = listed;
      apart = apart;
      good = λ f. (each f).0;
      few = λ f. leb-true _ _ (both_true (ltb 0 (length (pieces_of f))) (leb (length (pieces_of f)) 6) (each f).1).1;
      some = λ f. ltb-true _ _ (both_true (ltb 0 (length (pieces_of f))) (leb (length (pieces_of f)) 6) (each f).1).0;
    }

-- Items of a list with one place are one item.
pub same_place : {F : Type 0} (fs : List F) (place : F → ℕ) → ((f : F) → slice_get fs (place f) ≡ Some f) → (f g : F) → eqb (place f) (place g) ≡ true → g ≡ f
same_place fs place listed f g e = sym (same_some f g (sym (listed f) ∙ ap (slice_get fs) (eqb-true _ _ e) ∙ listed g))
