-- The text of a difference: what it says for certain.
use Rattle.std.specs.Prelude.{ℕ, ◌≡◌, ◌+◌, ◌-◌, nat_lt, if◌then◌else◌, List, ◌++◌, length, take, drop, codes}
use Rattle.scenario_text.specs.Spelling.{world_of, rows_of}
use Rattle.lawful_history.specs.declared.line.Line.{Line}
use Rattle.record_text.specs.Growing.{history_text}
use Rattle.trace_replay.specs.VerdictText.{difference_line}
use Rattle.ivshm_explain.specs.declared.differences.Difference.{Difference}
use Rattle.ivshm_explain.specs.Places.{number_text}

-- The text of the history line with this number, from 1.
abbrev pub line_said : List Line → (number : ℕ) → List ℕ
line_said lines number =
    if nat_lt (number - 1) (length lines) then history_text (take 1 (drop (number - 1) lines)) else codes "none, since the history has ended\n"

-- The number of the line in the record, in which the first line and the scenario's lines are before
-- the history.
abbrev pub line_in_record : Difference → ℕ
line_in_record d = 1 + length (rows_of (world_of d.trace.scenario)) + d.fault.line

-- The answer of `replay`, the line's number in the record and that line of its history, and that
-- line of the lawful history.
abbrev pub certain_text : Difference → List ℕ
certain_text d =
    difference_line d.fault ++ number_text (line_in_record d) ++ line_said d.trace.lines d.fault.line ++ codes "due: " ++ line_said d.lawful d.fault.line

-- With these the text begins.
pub record IsDifferenceText (d : Difference) (text : List ℕ) : Type 0 where
  pub words : List ℕ
  pub is : text ≡ certain_text d ++ words
