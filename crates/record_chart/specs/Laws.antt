-- The law of all rows: unfolded, they are the lines, each once and in order.
use Rattle.std.specs.Prelude.{ℕ, ◌≡◌, ◌+◌, ◌<◌, true, List, [], ◌∷◌, ◌++◌, length}
use Rattle.lawful_history.specs.declared.line.Line.{Line}
use Rattle.record_chart.specs.declared.rows.Row.{Row}
use Rattle.record_chart.specs.Rows.{goes_on, rows_of}

-- Each line but the first continues the row of the line before it.
abbrev pub GoOn : (storms : List ℕ) → List Line → Type 0
GoOn storms [] = Unit {0}
GoOn storms (line ∷ []) = Unit {0}
GoOn storms (line ∷ next ∷ lines) = (goes_on storms line next ≡ true) × GoOn storms (next ∷ lines)

-- The row is the lines of this run; the first has this number.
pub record IsRowOf (storms : List ℕ) (number : ℕ) (row : Row) (run : List Line) : Type 0 where
  pub first : row.first ≡ number
  pub count : row.count ≡ length run
  pub some : 0 < row.count
  pub kind : GoOn storms run

-- The lines are those of the rows, one row after another.
abbrev pub AreRowsOf : (storms : List ℕ) (number : ℕ) → List Row → List Line → Type 0
AreRowsOf storms number [] lines = lines ≡ []
AreRowsOf storms number (row ∷ rows) lines =
    (run rest : List Line) × (lines ≡ run ++ rest) × IsRowOf storms number row run × AreRowsOf storms (number + row.count) rows rest

-- The rows of all lines are these lines.
abbrev pub RowsAreTheLines : Type 0
RowsAreTheLines = (storms : List ℕ) (number : ℕ) (lines : List Line) → AreRowsOf storms number (rows_of storms number lines) lines
