-- Running records as texts: the scenario's text after `run 2`, then the part of each running peer,
-- and last the number of their lines.
use Rattle.std.specs.Prelude.{◌≡◌, ℕ, ◌^◌, ◌<◌, if◌then◌else◌, All, List, [], ◌∷◌, ◌++◌, length, map, codes}
use Rattle.std.specs.List.{flat_map}
use Rattle.line_format.specs.Rows.{Row, row, text_of}
use Rattle.lawful_history.specs.declared.line.Line.{Line}
use Rattle.scenario_text.specs.Scenario.{World, IsWorld}
use Rattle.scenario_text.specs.Spelling as scenario
use Rattle.record_text.specs.declared.forms.LineForm.TheVariants.{Count}
use Rattle.record_text.specs.declared.run_forms.RunForm.{RunForm}
use Rattle.record_text.specs.declared.run_forms.RunForm.TheVariants.{Own, Peer, Turns, Finished, Spent}
use Rattle.record_text.specs.declared.run_trace.RunTrace.{RunTrace}
use Rattle.record_text.specs.LineRows.{row_of_line}
use Rattle.record_text.specs.Spelling.{AllFit}
use Rattle.record_text.specs.Parts.{Part, peers_of, running_peers}
use Rattle.record_text.specs.OwnLines.{AreOwn}
use Rattle.record_text.specs.RunTable.{run_pieces_of}

-- The value of a running record.
pub record RunRecord : Type 0 where
  pub world : World
  pub parts : List Part

abbrev pub run_of : RunTrace → RunRecord
run_of t = record { world = scenario.world_of t.scenario; parts = t.peers }

-- The numbers and bytes of a part are of their forms' widths, and its lines are the peer's own.
pub record IsPart (p : Part) : Type 0 where
  pub peer : p.peer < 2 ^ 32
  pub own : AreOwn p.peer p.lines
  pub fits : AllFit p.lines
  pub turns : p.turns < 2 ^ 64

-- The row of a history line, in the table of a running record.
abbrev pub own_row : Line → Row RunForm
own_row line = row (Own (row_of_line line).form) (row_of_line line).numbers (row_of_line line).frame

-- The peer's line, its own lines, the number of its turns, and whether it finished.
abbrev pub rows_of_part : Part → List (Row RunForm)
rows_of_part p = row Peer (p.peer ∷ []) [] ∷ map own_row p.lines ++ row Turns (p.turns ∷ []) [] ∷ row (if p.finished then Finished else Spent) [] [] ∷ []

abbrev pub rows_of_parts : List Part → List (Row RunForm)
rows_of_parts parts = flat_map rows_of_part parts

abbrev pub run_rows : List Part → List (Row RunForm)
run_rows parts = rows_of_parts parts ++ row (Own Count) (length (rows_of_parts parts) ∷ []) [] ∷ []

-- A scenario and a part for each running peer, with lines that can be counted.
pub record IsRunRecord (r : RunRecord) : Type 0 where
  pub world : IsWorld r.world
  pub peers : peers_of r.parts ≡ running_peers r.world
  pub parts : All IsPart r.parts
  pub count : length (rows_of_parts r.parts) < 2 ^ 64

-- The one text of a running record.
abbrev pub run_spelling : RunRecord → List ℕ
run_spelling r = codes "run 2" ++ 10 ∷ scenario.spelling r.world ++ text_of run_pieces_of (run_rows r.parts)

-- The bytes spell the running record.
abbrev pub IsRunSpelling : RunRecord → List ℕ → Type 0
IsRunSpelling r bytes = IsRunRecord r × (bytes ≡ run_spelling r)
