-- The rows of all lines unfold to these lines.
use Rattle.std.proofs.Common.{ℕ, ◌≡◌, ◌+◌, ◌<◌, Bool, true, false, List, [], ◌∷◌, ◌++◌, refl, ap, sym, ◌∙◌, subst, arith}
use Rattle.lawful_history.specs.declared.line.Line.{Line}
use Rattle.record_chart.specs.declared.rows.Row.{Row}
use Rattle.record_chart.specs.Rows.{goes_on_after, row_of_one, put_before, rows_of}
use Rattle.record_chart.specs.Laws.{IsRowOf, AreRowsOf, RowsAreTheLines}

one_row : (storms : List ℕ) (number : ℕ) (line : Line) → IsRowOf storms number (row_of_one number) (line ∷ [])
one_row storms number line = record { first = refl; count = refl; some = omega arith; kind = tt }

renumbered : (storms : List ℕ) (rows : List Row) (lines : List Line) (a b : ℕ) → a ≡ b → AreRowsOf storms a rows lines → AreRowsOf storms b rows lines
renumbered storms rows lines a b e are = subst (λ (n : ℕ). AreRowsOf storms n rows lines) e are

-- A line before the run of a row that continues it.
joined : (storms : List ℕ) (number : ℕ) (line : Line) (row : Row) (run rest : List Line) → true ≡ goes_on_after storms line (run ++ rest) →
    IsRowOf storms (number + 1) row run →
    IsRowOf storms number (record { first = number; count = row.count + 1 }) (line ∷ run)
joined storms number line row [] rest goes is = absurd (let none : row.count ≡ 0 = is.count in let some : 0 < row.count = is.some in omega arith)
joined storms number line row (next ∷ run) rest goes is =
    record { first = refl; count = ap (λ (n : ℕ). n + 1) is.count ∙ omega arith; some = omega arith; kind = (sym goes, is.kind) }

before : (storms : List ℕ) (number : ℕ) (line : Line) (lines : List Line) (b : Bool) (rows : List Row) → b ≡ goes_on_after storms line lines →
    AreRowsOf storms (number + 1) rows lines → AreRowsOf storms number (put_before b number rows) (line ∷ lines)
before storms number line lines b [] goes none = (line ∷ [], [], ap (λ (ls : List Line). line ∷ ls) none, one_row storms number line, refl)
before storms number line lines true (row ∷ rows) goes (run, rest, split, is, more) =
    let goes_there : true ≡ goes_on_after storms line (run ++ rest) = goes ∙ ap (goes_on_after storms line) split in
    let next : number + 1 + row.count ≡ number + (row.count + 1) = omega arith in (
      line ∷ run,
      rest,
      ap (λ (ls : List Line). line ∷ ls) split,
      joined storms number line row run rest goes_there is,
      renumbered storms rows rest _ _ next
          more,
    )
before storms number line lines false (row ∷ rows) stops are = (line ∷ [], lines, refl, one_row storms number line, are)

pub unfold_rows : RowsAreTheLines
unfold_rows storms number [] = refl
unfold_rows storms number (line ∷ lines) = before storms number line lines (goes_on_after storms line lines) (rows_of storms (number + 1) lines) refl
    (unfold_rows storms (number + 1) lines)
