-- Texts of a table: rows that follow one another are read, and what is read is rows that follow one
-- another.
use Rattle.std.proofs.Common.{◌≡◌, ℕ, ◌+◌, ◌-◌, ◌^◌, ◌<◌, ◌≤◌, Bool, true, false, eqb, List, [], ◌∷◌, ◌++◌, length, map, Ok, refl, sym, ap, subst, ◌∙◌, append_assoc, arith}
use Rattle.std.proofs.lemmas.Bool.{ne_eqb}
use Rattle.std.proofs.lemmas.List.{append-nil, length-append, length-map}
use Rattle.std.proofs.lemmas.List.Concat.{flat_map-append, flat_map-cons}
use Rattle.line_format.specs.Forms.{Piece}
use Rattle.line_format.specs.Rows.{Row, line_of_row, text_of, numbered}
use Rattle.line_format.specs.Machine.{Machine, Leads, HasNoNewline, text_of_lines, read}
use Rattle.line_format.specs.Grammar.{Rules, step, machine_of}
use Rattle.line_format.specs.Texts.{Sense}
use Rattle.line_format.proofs.PartLaws.{IsNext, same_number}
use Rattle.line_format.proofs.ReadingLines.{read_is_lines}
use Rattle.line_format.proofs.FormsOfRows.{IsTable}
use Rattle.line_format.proofs.LinesOfRows.{bare, row_plain, text_is_lines, text-cons}
use Rattle.line_format.proofs.RowsFollow.{CanFollow, with_row, row_of_follows, step-row, step-ok}
use Rattle.line_format.proofs.LawsOfTexts.{IsForward}

-- ---- forward

-- Each row can follow, and none is the end.
abbrev pub Along : {S F C : Type 0} → Rules S F C → S → List (Row F) → S → Type 0
Along g d [] e = d ≡ e
Along g d (r ∷ rs) e = CanFollow g d r × (g.ended (with_row g r d) ≡ false) × Along g (with_row g r d) rs e

pub along-append : {S F C : Type 0} (g : Rules S F C) (d : S) (rs ss : List (Row F)) (e f : S) → Along g d rs e → Along g e ss f → Along g d (rs ++ ss) f
along-append {S} g d [] ss e f here later = subst (λ (x : S). Along g x ss f) (sym here) later
along-append g d (r ∷ rs) ss e f here later = (here.0, here.1, along-append g (with_row g r d) rs ss e f here.2 later)

-- The row of an item follows those of `front`, where `at` has the state after some items.
pub record Joins {A S F C : Type 0} (g : Rules S F C) (at : List A → S) (row_of : ℕ → A → Row F) (front : List A) (item : A) : Type 0 where
  pub follows : CanFollow g (at front) (row_of (length front) item)
  pub gives : with_row g (row_of (length front) item) (at front) ≡ at (front ++ item ∷ [])
  pub continues : g.ended (at (front ++ item ∷ [])) ≡ false

-- Each item's row follows those of the items before it.
abbrev pub EachJoins : {A S F C : Type 0} → Rules S F C → (List A → S) → (ℕ → A → Row F) → List A → Type 0
EachJoins {A} g at row_of items = (front rest : List A) (item : A) → items ≡ front ++ item ∷ rest → Joins g at row_of front item

items_along : {A S F C : Type 0} (g : Rules S F C) (at : List A → S) (row_of : ℕ → A → Row F) (items : List A) → EachJoins g at row_of items
    → (front rest : List A) → items ≡ front ++ rest → Along g (at front) (numbered row_of (length front) rest) (at items)
items_along g at row_of items each front [] is = ap at (sym (is ∙ append-nil front))
items_along {A} {S} g at row_of items each front (item ∷ rest) is =
    let j = each front rest item is in
    let whole : items ≡ (front ++ item ∷ []) ++ rest = is ∙ sym (append_assoc front (item ∷ []) rest) in
    let later = subst (λ (n : ℕ). Along g (at (front ++ item ∷ [])) (numbered row_of n rest) (at items)) (length-append front (item ∷ [])) (items_along g at row_of items each (front ++ item ∷ []) rest whole) in
    let t = subst (λ (x : S). (g.ended x ≡ false) × Along g x (numbered row_of (length front + 1) rest) (at items)) (sym j.gives) (j.continues, later) in
    (j.follows, t.0, t.1)

-- The rows of items with their numbers follow one another.
numbered_along : {A S F C : Type 0} (g : Rules S F C) (at : List A → S) (row_of : ℕ → A → Row F) (items : List A) → EachJoins g at row_of items → Along g (at []) (numbered row_of 0 items) (at items)
numbered_along g at row_of items each = items_along g at row_of items each [] items refl

numbered-map : {A F : Type 0} (row_of : A → Row F) (n : ℕ) (items : List A) → numbered (λ k item. row_of item) n items ≡ map row_of items
numbered-map row_of n [] = refl
numbered-map {A} {F} row_of n (item ∷ items) = ap (λ (rs : List (Row F)). row_of item ∷ rs) (numbered-map row_of (n + 1) items)

-- The rows of items follow one another.
mapped_along : {A S F C : Type 0} (g : Rules S F C) (at : List A → S) (row_of : A → Row F) (items : List A) → EachJoins g at (λ k item. row_of item) items → Along g (at []) (map row_of items) (at items)
mapped_along {A} {S} {F} g at row_of items each = subst (λ (rs : List (Row F)). Along g (at []) rs (at items)) (numbered-map row_of 0 items) (numbered_along g at (λ k item. row_of item) items each)

leads-cons : {S C : Type 0} (m : Machine S C) (d now : S) (line : List ℕ) (lines : List (List ℕ)) (e : S) → HasNoNewline line → m.step d line ≡ Ok now → m.ended now ≡ false → Leads m now lines e → Leads m d (line ∷ lines) e
leads-cons m d now line [] e plain is on leads = absurd leads
leads-cons m d now line (next ∷ more) e plain is on leads = (now, plain, is, on, leads)

-- Rows up to the last are lines that lead to the end.
leads : {S F C : Type 0} (g : Rules S F C) → IsTable g.pieces_of g.forms → (d : S) (rs : List (Row F)) (e : S) (r : Row F) (f : S) → Along g d rs e → CanFollow g e r → with_row g r e ≡ f → g.ended f ≡ true
    → Leads (machine_of g) d (map (bare g.pieces_of) (rs ++ r ∷ [])) f
leads {S} g table d [] e r f along can gives ended =
    let can' = subst (λ (x : S). CanFollow g x r) (sym along) can in
    let gives' = ap (with_row g r) along ∙ gives in
    (row_plain g.pieces_of g.forms table r (row_of_follows g d r can'), step-row g table d r can' ∙ ap (λ (x : S). Ok x) gives', ended)
leads g table d (s ∷ rs) e r f along can gives ended =
    leads-cons (machine_of g) d (with_row g s d) (bare g.pieces_of s) (map (bare g.pieces_of) (rs ++ r ∷ [])) f (row_plain g.pieces_of g.forms table s (row_of_follows g d s along.0)) (step-row g table d s along.0) along.1
    (leads g table (with_row g s d) rs e r f along.2 can gives ended)

-- The rows of a value: all but the last follow one another, and the last is the end.
pub record Reaches {S F C : Type 0} (g : Rules S F C) (d : S) (rows : List (Row F)) (f : S) : Type 0 where
  pub front : List (Row F)
  pub last : Row F
  pub before : S
  pub parts : rows ≡ front ++ last ∷ []
  pub along : Along g d front before
  pub follows : CanFollow g before last
  pub gives : with_row g last before ≡ f
  pub ended : g.ended f ≡ true

pub rows_lead : {S F C : Type 0} (g : Rules S F C) → IsTable g.pieces_of g.forms → (d : S) (rows : List (Row F)) (f : S) → Reaches g d rows f → Leads (machine_of g) d (map (bare g.pieces_of) rows) f
rows_lead {S} {F} g table d rows f r = subst (λ (rs : List (Row F)). Leads (machine_of g) d (map (bare g.pieces_of) rs) f) (sym r.parts) (leads g table d r.front r.before r.last f r.along r.follows r.gives r.ended)

-- Flags join if the row of each can follow where there are fewer flags before it than `count`.
pub flags_join : {S F C : Type 0} (g : Rules S F C) (at : List Bool → S) (row_of : ℕ → Bool → Row F) (flags : List Bool) (count : ℕ) → length flags ≡ count → count ≤ 8
    → ((front : List Bool) (flag : Bool) → length front ≤ 2 ^ 64 - 1 → eqb (length front) count ≡ false → IsNext (length front) → Joins g at row_of front flag) → EachJoins g at row_of flags
flags_join g at row_of flags count all few each front rest flag is =
    let less : length front < count = omega (arith, ap length is, length-append front (flag ∷ rest), all) in
    each front flag (omega arith) (ne_eqb _ _ (λ full. omega arith)) (same_number _ (omega arith))

-- A head, items with their numbers, and a line that is no end.
pub numbered_then : {A S F C : Type 0} (g : Rules S F C) (d : S) (head : List (Row F)) (at : List A → S) (row_of : ℕ → A → Row F) (items : List A) (next : Row F) (f : S)
    → Along g d head (at []) → EachJoins g at row_of items → Along g (at items) (next ∷ []) f → Along g d ((head ++ numbered row_of 0 items) ++ next ∷ []) f
numbered_then g d head at row_of items next f here each later =
    along-append g d (head ++ numbered row_of 0 items) (next ∷ []) (at items) f (along-append g d head (numbered row_of 0 items) (at []) (at items) here (numbered_along g at row_of items each)) later

-- A head, items, and the end.
pub mapped_reach : {A S F C : Type 0} (g : Rules S F C) (d : S) (head : List (Row F)) (at : List A → S) (row_of : A → Row F) (items : List A) (last : Row F) (f : S)
    → Along g d head (at []) → EachJoins g at (λ k item. row_of item) items → CanFollow g (at items) last → with_row g last (at items) ≡ f → g.ended f ≡ true → Reaches g d ((head ++ map row_of items) ++ last ∷ []) f
mapped_reach g d head at row_of items last f here each can gives ended = record {
  front = head ++ map row_of items;
  last = last;
  before = at items;
  parts = refl;
  along = along-append g d head (map row_of items) (at []) (at items) here (mapped_along g at row_of items each);
  follows = can;
  gives = gives;
  ended = ended;
}

-- The rows of each value are its lines, if they reach an end that has this value.
pub rows_forward : {S F C W E : Type 0} (g : Rules S F C) (s : Sense S C W E) (rows_of : W → List (Row F)) (IsWorld : W → Type 0) (at_end : W → S) → IsTable g.pieces_of g.forms
    → ((w : W) → IsWorld w → Reaches g s.start (rows_of w) (at_end w)) → ((w : W) → IsWorld w → s.value (at_end w) ≡ Ok w)
    → IsForward (machine_of g) s (λ w bytes. IsWorld w × (bytes ≡ text_of g.pieces_of (rows_of w))) (λ w. length (rows_of w))
rows_forward g s rows_of IsWorld at_end table reaches says = record {
  has = λ w bytes is. record {
    lines = map (bare g.pieces_of) (rows_of w);
    at_end = at_end w;
    text = is.1 ∙ text_is_lines g.pieces_of (rows_of w);
    leads = rows_lead g table s.start (rows_of w) (at_end w) (reaches w is.0);
    says = says w is.0;
    counted = omega (arith, length-map (rows_of w) (bare g.pieces_of));
  };
}

-- ---- the converse

text-append : {F : Type 0} (pieces_of : F → List Piece) (rs : List (Row F)) (r : Row F) (rest : List ℕ) → text_of pieces_of (rs ++ r ∷ []) ++ rest ≡ text_of pieces_of rs ++ (bare pieces_of r ++ 10 ∷ rest)
text-append pieces_of rs r rest =
    ap (λ (t : List ℕ). t ++ rest) (flat_map-append (line_of_row pieces_of) rs (r ∷ []))
    ∙ append_assoc (text_of pieces_of rs) (text_of pieces_of (r ∷ [])) rest
    ∙ ap (λ (t : List ℕ). text_of pieces_of rs ++ t) (ap (λ (t : List ℕ). t ++ rest) (text-cons pieces_of r []) ∙ append_assoc (bare pieces_of r) (10 ∷ []) rest)

pub line-cons : (line : List ℕ) (lines : List (List ℕ)) → text_of_lines (line ∷ lines) ≡ line ++ 10 ∷ text_of_lines lines
line-cons line lines = flat_map-cons (λ l. l ++ 10 ∷ []) line lines ∙ append_assoc line (10 ∷ []) (text_of_lines lines)

-- After the row its state has the invariant, and the rows so far end with the row.
pub record Adds {S F : Type 0} (before : S → List (Row F)) (Good : S → Type 0) (d : S) (r : Row F) (e : S) : Type 0 where
  pub rows : before e ≡ before d ++ r ∷ []
  pub good : Good e

-- A row that can follow preserves the invariant of the lines so far, and adds itself to their rows.
abbrev pub Keeps : {S F C : Type 0} → Rules S F C → (S → List (Row F)) → (S → Type 0) → S → Row F → Type 0
Keeps g before Good d r = Adds before Good d r (with_row g r d)

-- The item that has this row.
pub record HasItem {A F : Type 0} (row_of : A → Row F) (r : Row F) : Type 0 where
  pub item : A
  pub row_is : row_of item ≡ r

-- The row of an item is kept if the row of each item is.
pub keeps_item : {A S F C : Type 0} (g : Rules S F C) {before : S → List (Row F)} {Good : S → Type 0} (d : S) (row_of : A → Row F) (r : Row F) → HasItem row_of r
    → ((item : A) → CanFollow g d (row_of item) → Keeps g before Good d (row_of item)) → CanFollow g d r → Keeps g before Good d r
keeps_item {A} {S} {F} g {before} {Good} d row_of r has each can =
    subst (λ (x : Row F). Keeps g before Good d x) has.row_is (each has.item (subst (λ (x : Row F). CanFollow g d x) (sym has.row_is) can))

abbrev pub AreKept : {S F C : Type 0} → Rules S F C → (S → List (Row F)) → (S → Type 0) → Type 0
AreKept {S} {F} g before Good = (d : S) (r : Row F) → CanFollow g d r → Good d → Keeps g before Good d r

-- The facts after a line that was taken.
pub record Later {S F C : Type 0} (g : Rules S F C) (before : S → List (Row F)) (Good : S → Type 0) (d : S) (line : List ℕ) (e : S) : Type 0 where
  pub good : Good e
  pub text : (rest : List ℕ) → text_of g.pieces_of (before d) ++ (line ++ 10 ∷ rest) ≡ text_of g.pieces_of (before e) ++ rest

pub later : {S F C : Type 0} (g : Rules S F C) → IsTable g.pieces_of g.forms → (before : S → List (Row F)) (Good : S → Type 0) → AreKept g before Good → (d : S) (line : List ℕ) (e : S) → Good d → step g d line ≡ Ok e → Later g before Good d line e
later {S} {F} g table before Good kept d line e good is =
    let t = step-ok g table d line e is in
    let k = kept d t.taken t.can good in
    let rows : before e ≡ before d ++ t.taken ∷ [] = subst (λ (x : S). before x ≡ before d ++ t.taken ∷ []) t.gives k.rows in
    record {
      good = subst Good t.gives k.good;
      text = λ rest.
          ap (λ (l : List ℕ). text_of g.pieces_of (before d) ++ (l ++ 10 ∷ rest)) t.line_is_row
          ∙ sym (text-append g.pieces_of (before d) t.taken rest)
          ∙ ap (λ (rs : List (Row F)). text_of g.pieces_of rs ++ rest) (sym rows);
    }

-- The facts at the end.
record Whole {S F C : Type 0} (g : Rules S F C) (before : S → List (Row F)) (Good : S → Type 0) (d : S) (lines : List (List ℕ)) (e : S) : Type 0 where
  good : Good e
  ended : g.ended e ≡ true
  text : text_of g.pieces_of (before d) ++ text_of_lines lines ≡ text_of g.pieces_of (before e)

whole : {S F C : Type 0} (g : Rules S F C) → IsTable g.pieces_of g.forms → (before : S → List (Row F)) (Good : S → Type 0) → AreKept g before Good → (d : S) (lines : List (List ℕ)) (e : S) → Good d → Leads (machine_of g) d lines e → Whole g before Good d lines e
whole g table before Good kept d [] e good leads = absurd leads
whole g table before Good kept d (line ∷ []) e good leads =
    let b = later g table before Good kept d line e good leads.1 in
    record { good = b.good; ended = leads.2; text = ap (λ (t : List ℕ). text_of g.pieces_of (before d) ++ t) (line-cons line []) ∙ b.text [] ∙ append-nil _ }
whole g table before Good kept d (line ∷ next ∷ more) e good leads =
    let b = later g table before Good kept d line leads.0 good leads.2 in
    let w = whole g table before Good kept leads.0 (next ∷ more) e b.good leads.4 in
    record { good = w.good; ended = w.ended; text = ap (λ (t : List ℕ). text_of g.pieces_of (before d) ++ t) (line-cons line (next ∷ more)) ∙ b.text (text_of_lines (next ∷ more)) ∙ w.text }

-- The text that was read: the invariant holds at the end, and the text is that of the rows.
pub record IsRead {S F C : Type 0} (g : Rules S F C) (before : S → List (Row F)) (Good : S → Type 0) (bytes : List ℕ) (e : S) : Type 0 where
  pub good : Good e
  pub ended : g.ended e ≡ true
  pub text : bytes ≡ text_of g.pieces_of (before e)

pub is_read : {S F C : Type 0} (g : Rules S F C) → IsTable g.pieces_of g.forms → (before : S → List (Row F)) (Good : S → Type 0) → AreKept g before Good → (start : S) → Good start → before start ≡ [] → (bytes : List ℕ) (e : S) → read (machine_of g) start bytes ≡ Ok e → IsRead g before Good bytes e
is_read {S} {F} g table before Good kept start good none bytes e is =
    let l = read_is_lines (machine_of g) start e bytes is in
    let w = whole g table before Good kept start l.0 e good l.2 in
    record {
      good = w.good;
      ended = w.ended;
      text = l.1 ∙ ap (λ (rs : List (Row F)). text_of g.pieces_of rs ++ text_of_lines l.0) (sym none) ∙ w.text;
    }
