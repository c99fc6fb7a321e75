-- The rows of the rest of a list, after a row that still grows.
use Rattle.std.proofs.Common.{ℕ, ◌≡◌, ◌==◌, ◌+◌, ◌-◌, ◌<◌, ◌≤◌, Bool, true, false, List, [], ◌∷◌, ◌++◌, length, take, drop, get_or, refl, ap, sym, ◌∙◌, arith, append_assoc}
use Rattle.std.proofs.lemmas.List.{drop_more, drop_all, take_at, take_all, get_or_read}
use Rattle.lawful_history.specs.declared.line.Line.{Line}
use Rattle.record_chart.specs.declared.rows.Row.{Row}
use Rattle.record_chart.specs.Rows.{goes_on, goes_on_after, row_of_one, put_before, rows_of}

-- The rows of a list that begins with the last line of a growing row; the first row counts the
-- lines before it too.
abbrev pub grown : Row → List Row → List Row
grown growing [] = []
grown growing (row ∷ rows) = record { first = growing.first; count = (growing.count + row.count) - 1 } ∷ rows

abbrev pub longer : Row → Row
longer growing = record { first = growing.first; count = growing.count + 1 }

abbrev pub counting : ℕ → ℕ → Row
counting first count = record { first = first; count = count }

same_row : (first a b : ℕ) (rows : List Row) → a ≡ b → counting first a ∷ rows ≡ counting first b ∷ rows
same_row first a b rows e = ap (λ (c : ℕ). counting first c ∷ rows) e

goes_at : (growing : Row) (number m : ℕ) (b : Bool) (rows : List Row) →
    grown growing (put_before true number (put_before b m rows)) ≡ grown (longer growing) (put_before b m rows)
goes_at growing number m b [] = same_row growing.first _ _ [] (omega arith)
goes_at growing number m true (row ∷ rows) = same_row growing.first (growing.count + (row.count + 1 + 1) - 1) (growing.count + 1 + (row.count + 1) - 1) rows
    (omega arith)
goes_at growing number m false (row ∷ rows) = same_row growing.first (growing.count + (1 + 1) - 1) (growing.count + 1 + 1 - 1) (row ∷ rows) (omega arith)

fresh : (m a b : ℕ) (rows : List Row) → a ≡ b → (growing : Row) →
    counting growing.first (growing.count + 1 - 1) ∷ counting m a ∷ rows ≡ growing ∷ counting m b ∷ rows
fresh m a b rows e growing =
    ap (λ (c : ℕ). counting growing.first (growing.count + 1 - 1) ∷ counting m c ∷ rows) e
    ∙ same_row growing.first (growing.count + 1 - 1) growing.count (counting m b ∷ rows) (omega arith)

stops_at : (growing : Row) (number m : ℕ) (b : Bool) (rows : List Row) →
    grown growing (put_before false number (put_before b m rows)) ≡ growing ∷ grown (row_of_one m) (put_before b m rows)
stops_at growing number m b [] = fresh m 1 (1 + 1 - 1) [] refl growing
stops_at growing number m true (row ∷ rows) = fresh m (row.count + 1) (1 + (row.count + 1) - 1) rows (omega arith) growing
stops_at growing number m false (row ∷ rows) = fresh m 1 (1 + 1 - 1) (row ∷ rows) refl growing

-- The rows of the rest from the line before index `at`, with the row that grows.
abbrev pub rest_of : List ℕ → (first at : ℕ) → Row → List Line → List Row
rest_of storms first at growing lines = grown growing (rows_of storms (first + (at - 1)) (drop (at - 1) lines))

-- The list from the line before index `at` is that line, the next, and the lines after them.
two_more : (lines : List Line) (at : ℕ) (d : Line) → 1 ≤ at → at < length lines →
    drop (at - 1) lines ≡ get_or lines (at - 1) d ∷ get_or lines at d ∷ drop (at + 1) lines
two_more lines at d some below =
    let back : (at - 1) + 1 ≡ at = omega arith in
    drop_more lines (at - 1) d (omega arith) ∙ ap (λ (k : ℕ). get_or lines (at - 1) d ∷ drop k lines) back
    ∙ ap (λ (ls : List Line). get_or lines (at - 1) d ∷ ls) (drop_more lines at d below)

one_more : (lines : List Line) (at : ℕ) (d : Line) → at < length lines → drop at lines ≡ get_or lines at d ∷ drop (at + 1) lines
one_more lines at d below = drop_more lines at d below

-- The rows from the line before index `at`, by those from `at` on.
rows-two : (storms : List ℕ) (first at : ℕ) (lines : List Line) (d : Line) → 1 ≤ at → at < length lines →
    rows_of storms (first + (at - 1)) (drop (at - 1) lines) ≡ put_before (goes_on storms (get_or lines (at - 1) d) (get_or lines at d)) (first + (at - 1))
    (rows_of storms (first + (at - 1) + 1) (get_or lines at d ∷ drop (at + 1) lines))
rows-two storms first at lines d some below = ap (rows_of storms (first + (at - 1))) (two_more lines at d some below)

next_number : (storms : List ℕ) (first at : ℕ) (lines : List Line) (d : Line) → 1 ≤ at → at < length lines →
    rows_of storms (first + (at - 1) + 1) (get_or lines at d ∷ drop (at + 1) lines) ≡ rows_of storms (first + (at + 1 - 1)) (drop (at + 1 - 1) lines)
next_number storms first at lines d some below =
    let number : first + (at - 1) + 1 ≡ first + (at + 1 - 1) = omega arith in
    let place : at ≡ at + 1 - 1 = omega arith in
    ap (λ (n : ℕ). rows_of storms n (get_or lines at d ∷ drop (at + 1) lines)) number
    ∙ ap (rows_of storms (first + (at + 1 - 1))) (sym (one_more lines at d below) ∙ ap (λ (k : ℕ). drop k lines) place)

pub goes_more : (storms : List ℕ) (first at : ℕ) (growing : Row) (lines : List Line) (before line : Line) → 1 ≤ at → at < length lines →
    before ≡ get_or lines (at - 1) before →
    line ≡ get_or lines at line → true ≡ goes_on storms before line →
    rest_of storms first at growing lines ≡ rest_of storms first (at + 1) (longer growing) lines
goes_more storms first at growing lines before line some below is_before is_line goes =
    let same_before : before ≡ get_or lines (at - 1) line = get_or_read lines (at - 1) before (omega arith) is_before line in
    let goes_there : goes_on storms (get_or lines (at - 1) line) (get_or lines at line) ≡ true =
    ap (λ (l : Line). goes_on storms l (get_or lines at line)) (sym same_before) ∙ ap (λ (l : Line). goes_on storms before l) (sym is_line) ∙ sym goes in
    ap (grown growing) (rows-two storms first at lines line some below)
    ∙ ap (λ (b : Bool). grown growing (put_before b (first + (at - 1))
    (rows_of storms (first + (at - 1) + 1) (get_or lines at line ∷ drop (at + 1) lines)))) goes_there
    ∙ goes_at growing (first + (at - 1)) (first + (at - 1) + 1) (goes_on_after storms (get_or lines at line) (drop (at + 1) lines))
    (rows_of storms (first + (at - 1) + 1 + 1) (drop (at + 1) lines))
    ∙ ap (grown (longer growing)) (next_number storms first at lines line some below)

pub stops_more : (storms : List ℕ) (first at : ℕ) (growing : Row) (lines : List Line) (before line : Line) → 1 ≤ at → at < length lines →
    before ≡ get_or lines (at - 1) before →
    line ≡ get_or lines at line → false ≡ goes_on storms before line →
    rest_of storms first at growing lines ≡ growing ∷ rest_of storms first (at + 1) (row_of_one (first + at)) lines
stops_more storms first at growing lines before line some below is_before is_line stops =
    let same_before : before ≡ get_or lines (at - 1) line = get_or_read lines (at - 1) before (omega arith) is_before line in
    let stops_there : goes_on storms (get_or lines (at - 1) line) (get_or lines at line) ≡ false =
    ap (λ (l : Line). goes_on storms l (get_or lines at line)) (sym same_before) ∙ ap (λ (l : Line). goes_on storms before l) (sym is_line) ∙ sym stops in
    let number : first + (at - 1) + 1 ≡ first + at = omega arith in
    ap (grown growing) (rows-two storms first at lines line some below)
    ∙ ap (λ (b : Bool). grown growing (put_before b (first + (at - 1))
    (rows_of storms (first + (at - 1) + 1) (get_or lines at line ∷ drop (at + 1) lines)))) stops_there
    ∙ stops_at growing (first + (at - 1)) (first + (at - 1) + 1) (goes_on_after storms (get_or lines at line) (drop (at + 1) lines))
    (rows_of storms (first + (at - 1) + 1 + 1) (drop (at + 1) lines))
    ∙ ap (λ (rows : List Row). growing ∷ grown (row_of_one (first + (at - 1) + 1)) rows) (next_number storms first at lines line some below)
    ∙ ap (λ (n : ℕ). growing ∷ grown (row_of_one n) (rows_of storms (first + (at + 1 - 1)) (drop (at + 1 - 1) lines))) number

begun : (b : Bool) (n : ℕ) (rows : List Row) → grown (row_of_one n) (put_before b n rows) ≡ put_before b n rows
begun b n [] = refl
begun true n (row ∷ rows) = same_row n (1 + (row.count + 1) - 1) (row.count + 1) rows (omega arith)
begun false n (row ∷ rows) = refl

begun_rows : (storms : List ℕ) (n : ℕ) (lines : List Line) → grown (row_of_one n) (rows_of storms n lines) ≡ rows_of storms n lines
begun_rows storms n [] = refl
begun_rows storms n (line ∷ lines) = begun (goes_on_after storms line lines) n (rows_of storms (n + 1) lines)

pub begins : (storms : List ℕ) (first : ℕ) (lines : List Line) → rest_of storms first 1 (row_of_one first) lines ≡ rows_of storms first lines
begins storms first lines = let none : first + 0 ≡ first = omega arith in ap (λ (n : ℕ). grown (row_of_one first) (rows_of storms n lines)) none
    ∙ begun_rows storms first lines

last_row : (growing : Row) (n : ℕ) → grown growing (row_of_one n ∷ []) ≡ growing ∷ []
last_row growing n = same_row growing.first (growing.count + 1 - 1) growing.count [] (omega arith)

pub ends : (storms : List ℕ) (first at : ℕ) (growing : Row) (lines : List Line) → 1 ≤ at → at ≡ length lines →
    rest_of storms first at growing lines ≡ growing ∷ []
ends storms first at growing [] some all = absurd (omega arith)
ends storms first at growing (line ∷ lines) some all =
    let whole : List Line = line ∷ lines in
    let one : drop (at - 1) whole ≡ get_or whole (at - 1) line ∷ [] =
    drop_more whole (at - 1) line (omega arith) ∙ ap (λ (ls : List Line). get_or whole (at - 1) line ∷ ls) (drop_all (at - 1 + 1) whole (omega arith)) in
    ap (λ (ls : List Line). grown growing (rows_of storms (first + (at - 1)) ls)) one ∙ last_row growing (first + (at - 1))

-- The greatest number of rows.
pub capped : (items rest all : List Row) (growing : Row) → length (items ++ growing ∷ []) ≡ 2000 → items ++ growing ∷ rest ≡ all →
    items ++ growing ∷ [] ≡ take 2000 all
capped items rest all growing most is =
    sym (take_at (items ++ growing ∷ []) rest 2000 most) ∙ ap (take 2000) (append_assoc items (growing ∷ []) rest ∙ is)

pub uncapped : (items all : List Row) (growing : Row) → length (items ++ growing ∷ []) ≤ 2000 → items ++ growing ∷ [] ≡ all →
    items ++ growing ∷ [] ≡ take 2000 all
uncapped items all growing few is = is ∙ sym (take_all 2000 all (rw (← is) few))

pub some_of : (lines : List Line) → false ≡ (length lines == 0) → 1 ≤ length lines
some_of [] none = cc
some_of (line ∷ lines) some = omega arith
