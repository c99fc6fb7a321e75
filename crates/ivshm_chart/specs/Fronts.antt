-- The first lines of a record.
use Rattle.std.specs.Prelude.{ℕ, ◌≡◌, List, [], ◌++◌, length}
use Rattle.scenario_text.specs.Scenario.{World}
use Rattle.scenario_text.specs.Spelling.{world_of}
use Rattle.lawful_history.specs.declared.line.Line.{Line}
use Rattle.lawful_history.specs.Frames.{HaveFrames}
use Rattle.record_text.specs.Spelling.{IsSpelling}
use Rattle.record_text.specs.Readers.{IsReading}
use Rattle.record_text.specs.declared.reader.Reader.{Reader}
use Rattle.ivshm_chart.specs.declared.fronts.Front.{Front}

-- The text spells the record of these lines and of `count` lines after them.
pub record IsFront (bytes : List ℕ) (version : ℕ) (world : World) (lines : List Line) (count : ℕ) : Type 0 where
  pub others : List Line
  pub counted : length others ≡ count
  pub frames : HaveFrames lines
  pub spelled : IsSpelling (record { version = version; world = world; lines = lines ++ others }) bytes

-- Of each text that the reader reads from here on, and of its head, this holds.
abbrev pub AtEachReading : Reader → (List ℕ → ℕ → World → Type 0) → Type 0
AtEachReading reader Holds = (bytes : List ℕ) (version : ℕ) (world : World) → IsReading bytes version world [] reader → Holds bytes version world

abbrev pub IsFrontOf : List ℕ → Front → Type 0
IsFrontOf bytes front = IsFront bytes front.trace.version (world_of front.trace.scenario) front.trace.lines front.others
