-- Records as texts: the scenario's text between `record V` and the history, and last the number of
-- history lines.
use Rattle.std.specs.Prelude.{◌≡◌, ℕ, ◌+◌, ◌^◌, ◌<◌, true, All, List, [], ◌∷◌, ◌++◌, length, map}
use Rattle.line_format.specs.Forms.{Fit, FitBytes}
use Rattle.line_format.specs.Rows.{Row, row, text_of}
use Rattle.lawful_history.specs.declared.line.Line.{Line}
use Rattle.scenario_text.specs.Scenario.{World, IsWorld}
use Rattle.scenario_text.specs.Spelling as scenario
use Rattle.record_text.specs.declared.forms.LineForm.{LineForm}
use Rattle.record_text.specs.declared.forms.LineForm.TheVariants.{Count}
use Rattle.record_text.specs.declared.trace.Trace.{Trace}
use Rattle.record_text.specs.Versions.{first_line}
use Rattle.record_text.specs.Table.{pieces_of}
use Rattle.record_text.specs.LineRows.{row_of_line}
use Rattle.lawful_history.specs.Frames.{HaveFrames}
use Rattle.lawful_history.specs.Versions.{is_version}

-- The value of a record.
pub record Record : Type 0 where
  pub version : ℕ
  pub world : World
  pub lines : List Line

abbrev pub record_of : Trace → Record
record_of t = record { version = t.version; world = scenario.world_of t.scenario; lines = t.lines }

-- The numbers and the bytes of a line are of its form's width, as those of every Line are.
pub record Fits (line : Line) : Type 0 where
  pub values : Fit (pieces_of (row_of_line line).form) (row_of_line line).numbers
  pub bytes : FitBytes (pieces_of (row_of_line line).form) (row_of_line line).frame

abbrev pub AllFit : List Line → Type 0
AllFit lines = All Fits lines

-- One of the versions, a scenario, and lines that can be counted.
pub record IsRecord (r : Record) : Type 0 where
  pub version : is_version r.version ≡ true
  pub world : IsWorld r.world
  pub fits : AllFit r.lines
  pub frames : HaveFrames r.lines
  pub count : length r.lines < 2 ^ 64

-- The history and the count of its lines.
abbrev pub history_rows : List Line → List (Row LineForm)
history_rows lines = map row_of_line lines ++ row Count (length lines ∷ []) [] ∷ []

-- The number of lines of the text: the first, the scenario's, the history's and their count.
abbrev pub line_count : Record → ℕ
line_count r = 1 + scenario.line_count r.world + length r.lines + 1

-- The one text of a record.
abbrev pub spelling : Record → List ℕ
spelling r = first_line r.version ++ 10 ∷ scenario.spelling r.world ++ text_of pieces_of (history_rows r.lines)

-- The bytes spell the record.
abbrev pub IsSpelling : Record → List ℕ → Type 0
IsSpelling r bytes = IsRecord r × (bytes ≡ spelling r)
