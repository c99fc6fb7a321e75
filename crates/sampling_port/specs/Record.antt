-- The record of a schedule of ports: its text and its one lawful history.
use Rattle.std.specs.Prelude.{ℕ, ◌≡◌, List, [], ◌∷◌, ◌++◌, length, map}
use Rattle.line_format.specs.Rows.{row, line_of_row, text_of}
use Rattle.port_text.specs.Scenario.{World}
use Rattle.port_text.specs.Spelling.{spelling, IsSpelling}
use Rattle.sampling_port.specs.declared.lines.Form.TheVariants.{Head, End}
use Rattle.sampling_port.specs.EventRecords.{Line}
use Rattle.sampling_port.specs.LineRows.{pieces_of_line, row_of_line}
use Rattle.sampling_port.specs.Lawful.{IsLawful}

-- The text of these lines, one for each.
abbrev pub text_of_lines : List Line → List ℕ
text_of_lines lines = text_of pieces_of_line (map row_of_line lines)

-- `portrecord 1`, the text of the schedule, the lines, and `end` with their number.
abbrev pub record_of : World → List Line → List ℕ
record_of world lines =
    line_of_row pieces_of_line (row Head (1 ∷ []) []) ++ spelling world ++ text_of_lines lines
    ++ line_of_row pieces_of_line (row End (length lines ∷ []) [])

-- The bytes spell a schedule of ports, and `others` is its record.
pub record IsRecord (bytes others : List ℕ) : Type 0 where
  pub world : World
  pub spelled : IsSpelling world bytes
  pub lines : List Line
  pub lawful : IsLawful world lines
  pub text : others ≡ record_of world lines
