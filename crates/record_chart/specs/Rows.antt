-- The rows of a picture: the lines of a history in their order, of which some share the row of the
-- line before.
use Rattle.std.specs.Prelude.{ℕ, ◌+◌, ◌-◌, ◌==◌, ◌&&◌, ◌||◌, if◌then◌else◌, Bool, false, List, [], ◌∷◌, take, drop, Option, Some, None}
use Rattle.std.specs.List.{list_any, filter_map}
use Rattle.lawful_history.specs.declared.line.Line.{Line}
use Rattle.lawful_history.specs.declared.line.Line.TheVariants.{Idle, Write}
use Rattle.scenario_text.specs.declared.acts.Act.{Act}
use Rattle.scenario_text.specs.declared.acts.Act.TheVariants.{Storm}
use Rattle.record_chart.specs.declared.rows.Row.{Row}

-- The peer whose turns are generated writes from this act on.
abbrev pub storm_of : Act → Option ℕ
storm_of (Storm peer seed) = Some peer
storm_of _ = None

-- The peers that storm.
abbrev pub storms_of : List Act → List ℕ
storms_of acts = filter_map storm_of acts

abbrev pub is_among : List ℕ → ℕ → Bool
is_among peers peer = list_any (λ other. other == peer) peers

-- Whether a line shares the row of the line before it. Such a line is an idle line of the same
-- peer, or a write of the same storm. It may also be a write of 0 to the next word after one to
-- which the same peer wrote 0.
abbrev pub goes_on : (storms : List ℕ) → Line → Line → Bool
goes_on storms (Idle peer) (Idle other) = peer == other
goes_on storms (Write peer word value) (Write other next last) =
    peer == other && (is_among storms peer || (value == 0 && last == 0 && next == word + 1))
goes_on storms _ _ = false

abbrev pub row_of_one : ℕ → Row
row_of_one number = record { first = number; count = 1 }

-- A line before these rows. It joins the first of them if the line after it continues it, else it
-- has a row of its own.
abbrev pub put_before : Bool → (number : ℕ) → List Row → List Row
put_before goes number [] = row_of_one number ∷ []
put_before goes number (row ∷ rows) = if goes then record { first = number; count = row.count + 1 } ∷ rows else row_of_one number ∷ row ∷ rows

abbrev pub goes_on_after : List ℕ → Line → List Line → Bool
goes_on_after storms line [] = false
goes_on_after storms line (next ∷ lines) = goes_on storms line next

-- The rows of these lines; the first has this number.
abbrev pub rows_of : (storms : List ℕ) → (number : ℕ) → List Line → List Row
rows_of storms number [] = []
rows_of storms number (line ∷ lines) = put_before (goes_on_after storms line lines) number (rows_of storms (number + 1) lines)

-- The lines from number `first` to number `last`, counted from 1.
abbrev pub lines_between : (first last : ℕ) → List Line → List Line
lines_between first last lines = drop (first - 1) (take last lines)
