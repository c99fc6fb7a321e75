-- A text written part by part, and rows with numbers.
use Rattle.std.proofs.Common.{◌≡◌, ℕ, zero, suc, ◌+◌, ◌-◌, ◌^◌, ◌<◌, ◌≤◌, Bool, false, eqb, not, List, [], ◌∷◌, ◌++◌, length, get_or, take, map, Option, Some, None, refl, sym, ap, ◌∙◌, append_assoc, arith, eq-eqb, inl, inr}
use Rattle.std.specs.Prelude.{option_and_then, slice_get, decimal}
use Rattle.std.specs.Option.{option_map_or}
use Rattle.std.proofs.lemmas.Bool.{eqb-true, eqb-false, cases_lt}
use Rattle.std.proofs.lemmas.List.{append-nil, map-append, length-append, take_more, length-take}
use Rattle.std.proofs.lemmas.List.Concat.{flat_map-append, flat_map-cons}
use Rattle.line_format.specs.Numbers.{number_of}
use Rattle.line_format.specs.Forms.{Piece, Word, Number, Fit, spell}
use Rattle.line_format.specs.Rows.{Row, line_of_row, text_of, numbered}
use Rattle.line_format.proofs.DecimalFields.{number_of-decimal}
use Rattle.line_format.proofs.TestChains.{not_false}

-- ---- parts of a text

pub text-push : {F : Type 0} (pieces_of : F → List Piece) (front : List ℕ) (rs : List (Row F)) (r : Row F) → front ++ text_of pieces_of rs ++ line_of_row pieces_of r ≡ front ++ text_of pieces_of (rs ++ r ∷ [])
text-push pieces_of front rs r =
    append_assoc front (text_of pieces_of rs) (line_of_row pieces_of r)
    ∙ ap (λ (t : List ℕ). front ++ t) (sym (flat_map-append (line_of_row pieces_of) rs (r ∷ []) ∙ ap (λ (t : List ℕ). text_of pieces_of rs ++ t) (flat_map-cons (line_of_row pieces_of) r [] ∙ append-nil (line_of_row pieces_of r))))

pub text-on : {F : Type 0} (pieces_of : F → List Piece) (front : List ℕ) (rs ss : List (Row F)) → front ++ text_of pieces_of rs ++ text_of pieces_of ss ≡ front ++ text_of pieces_of (rs ++ ss)
text-on pieces_of front rs ss = append_assoc front (text_of pieces_of rs) (text_of pieces_of ss) ∙ ap (λ (t : List ℕ). front ++ t) (sym (flat_map-append (line_of_row pieces_of) rs ss))

-- ---- rows with numbers

pub numbered-push : {A F : Type 0} (row_of : ℕ → A → Row F) (n : ℕ) (items : List A) (item : A) → numbered row_of n (items ++ item ∷ []) ≡ numbered row_of n items ++ row_of (n + length items) item ∷ []
numbered-push row_of n [] item = ap (λ (k : ℕ). row_of k item ∷ []) (omega arith)
numbered-push {A} {F} row_of n (first ∷ items) item =
    ap (λ (rs : List (Row F)). row_of n first ∷ rs) (numbered-push row_of (n + 1) items item ∙ ap (λ (k : ℕ). numbered row_of (n + 1) items ++ row_of k item ∷ []) (omega arith))

-- One more item adds its row, with its number.
pub numbers-push : {A F : Type 0} (front : List (Row F)) (row_of : ℕ → A → Row F) (items : List A) (item : A) (r : Row F) → row_of (length items) item ≡ r
    → front ++ numbered row_of 0 (items ++ item ∷ []) ≡ (front ++ numbered row_of 0 items) ++ r ∷ []
numbers-push front row_of items item r e =
    let none : 0 + length items ≡ length items = omega arith in
    rw (numbered-push row_of 0 items item, none, ← e) (sym (append_assoc front (numbered row_of 0 items) (row_of (length items) item ∷ [])))

pub numbered-more : {A F : Type 0} (pieces_of : F → List Piece) (row_of : ℕ → A → Row F) (front : List ℕ) (items : List A) (n : ℕ) (item : A) → n < length items → get_or items n item ≡ item
    → front ++ text_of pieces_of (numbered row_of 0 (take n items)) ++ line_of_row pieces_of (row_of n item) ≡ front ++ text_of pieces_of (numbered row_of 0 (take (n + 1) items))
numbered-more {A} {F} pieces_of row_of front items n item lt is =
    let len : 0 + length (take n items) ≡ n = omega (arith, length-take n items) in
    let rows : numbered row_of 0 (take (n + 1) items) ≡ numbered row_of 0 (take n items) ++ row_of n item ∷ [] = rw (take_more items n item lt, is) (numbered-push row_of 0 (take n items) item ∙ ap (λ (k : ℕ). numbered row_of 0 (take n items) ++ row_of k item ∷ []) len) in
    text-push pieces_of front (numbered row_of 0 (take n items)) (row_of n item) ∙ ap (λ (rs : List (Row F)). front ++ text_of pieces_of rs) (sym rows)

-- ---- rows of items

-- Rows and one more.
pub then_row : {F : Type 0} (front : List (Row F)) {r s : Row F} → r ≡ s → front ++ r ∷ [] ≡ front ++ s ∷ []
then_row {F} front e = ap (λ (x : Row F). front ++ x ∷ []) e

-- One more item adds its row.
pub rows-push : {A F : Type 0} (front : List (Row F)) (row_of : A → Row F) (items : List A) (item : A) (r : Row F) → row_of item ≡ r
    → front ++ map row_of (items ++ item ∷ []) ≡ (front ++ map row_of items) ++ r ∷ []
rows-push front row_of items item r e = rw (map-append, ← e) (sym (append_assoc front (map row_of items) (row_of item ∷ [])))

-- With one more there are fewer than n, if there aren't n.
pub still_fewer : {A : Type 0} (items : List A) (item : A) (n : ℕ) → length items < n → eqb (length (items ++ item ∷ [])) n ≡ false → length (items ++ item ∷ []) < n
still_fewer items item n less other =
    let one : length (items ++ item ∷ []) ≡ length items + 1 = length-append items (item ∷ []) in
    elim (cases_lt (length (items ++ item ∷ [])) n) [
      | inl lt ↦ lt
      | inr ge ↦ absurd (eqb-false _ _ other (omega arith))
    ]

-- The rows before position n of a text: head lines, the rows of peers, `begin`, the rows of acts
-- and `end`. After the last peer comes a position of its own.
abbrev pub rows_at : {F : Type 0} → (head peers : List (Row F)) → Row F → List (Row F) → Row F → ℕ → List (Row F)
rows_at (r ∷ head) peers begin acts last zero = []
rows_at (r ∷ head) peers begin acts last (suc n) = r ∷ rows_at head peers begin acts last n
rows_at [] peers begin acts last zero = peers
rows_at [] peers begin acts last (suc zero) = peers
rows_at [] peers begin acts last (suc (suc zero)) = (peers ++ begin ∷ []) ++ acts
rows_at [] peers begin acts last (suc (suc (suc n))) = ((peers ++ begin ∷ []) ++ acts) ++ last ∷ []

-- ---- rules about the number in a field

pub no_rule : (o : Option ℕ) → option_map_or (λ n. false) o false ≡ false
no_rule (Some n) = refl
no_rule None = refl

pub rule_of : (rule : ℕ → Bool) (n : ℕ) → n ≤ 2 ^ 64 - 1 → option_map_or rule (number_of (decimal n)) false ≡ rule n
rule_of rule n le = rw (number_of-decimal n (omega arith)) refl

-- The field of number n passes the rule that it is n.
abbrev pub IsNext : ℕ → Type 0
IsNext n = option_map_or (λ q. not (eqb q n)) (number_of (decimal n)) false ≡ false

pub same_number : (n : ℕ) → n < 2 ^ 64 → IsNext n
same_number n small = rw (number_of-decimal n small, eq-eqb n n refl) refl

-- A line whose field 1 has to be this number has it.
pub next_number : (count : ℕ) (w v : List ℕ) (ns bytes : List ℕ) → Fit (Word w ∷ Number 0 (2 ^ 64 - 1) ∷ Word v ∷ []) ns
    → option_map_or (λ p. not (eqb p count)) (option_and_then number_of (slice_get (spell (Word w ∷ Number 0 (2 ^ 64 - 1) ∷ Word v ∷ []) ns bytes) 1)) false ≡ false
    → count ∷ [] ≡ ns
next_number count w v [] bytes fit e = absurd fit
next_number count w v (p ∷ q ∷ ns) bytes fit e = absurd fit.2
next_number count w v (p ∷ []) bytes fit e =
    let small : p < 2 ^ 64 = omega (arith, fit.1) in
    let same : p ≡ count = eqb-true _ _ (not_false _ (rw (number_of-decimal p small) at e)) in
    ap (λ (k : ℕ). k ∷ []) (sym same)
