-- A record's text that is put together part by part.
use Rattle.std.specs.Prelude.{◌≡◌, ℕ, List, [], ◌∷◌, ◌++◌, length, map}
use Rattle.line_format.specs.Rows.{row, line_of_row, text_of}
use Rattle.lawful_history.specs.declared.line.Line.{Line}
use Rattle.scenario_text.specs.Scenario.{World}
use Rattle.scenario_text.specs.Spelling as scenario
use Rattle.record_text.specs.declared.forms.LineForm.TheVariants.{Count}
use Rattle.record_text.specs.Versions.{first_line}
use Rattle.record_text.specs.Table.{pieces_of}
use Rattle.record_text.specs.LineRows.{row_of_line}
use Rattle.record_text.specs.Spelling.{Record, spelling}

-- The lines before a history.
abbrev pub front_text : (version : ℕ) → World → List ℕ
front_text version world = first_line version ++ 10 ∷ scenario.spelling world

-- The lines of a history, or of a part of it.
abbrev pub history_text : List Line → List ℕ
history_text lines = text_of pieces_of (map row_of_line lines)

-- The line with the number of these lines.
abbrev pub count_text : ℕ → List ℕ
count_text count = line_of_row pieces_of (row Count (count ∷ []) [])

-- In this order they make the record's text.
abbrev pub PartsAreSpelling : Type 0
PartsAreSpelling = (r : Record) → front_text r.version r.world ++ history_text r.lines ++ count_text (length r.lines) ≡ spelling r

-- The text of lines is that of the first ones, followed by that of the others.
abbrev pub LinesFollow : Type 0
LinesFollow = (first others : List Line) → history_text (first ++ others) ≡ history_text first ++ history_text others
