-- Comparing a record's text with the lawful history.
use Rattle.std.specs.Prelude.{ℕ, List, ◌++◌}
use Rattle.scenario_text.specs.Scenario.{World}
use Rattle.lawful_history.specs.declared.line.Line.{Line}
use Rattle.record_text.specs.declared.reader.Reader.{Reader}
use Rattle.record_text.specs.Readers.{IsReading}
use Rattle.record_text.specs.Spelling.{IsSpelling}
use Rattle.link_model.specs.declared.expected_run.ExpectedRun.{ExpectedRun}
use Rattle.link_model.specs.ExpectedRun.{world_in, GoesOn}

-- The lines of the text that were read are those that the expected run of its scenario took.
pub record IsBeside (bytes : List ℕ) (expected_run : ExpectedRun) (reader : Reader) : Type 0 where
  pub lines : List Line
  pub reads : IsReading bytes expected_run.version (world_in expected_run) lines reader
  pub goes : GoesOn lines expected_run

-- The text is that of a record that begins with these lines.
pub record IsRead (bytes : List ℕ) (version : ℕ) (world : World) (lines : List Line) : Type 0 where
  pub more : List Line
  pub spelled : IsSpelling (record { version = version; world = world; lines = lines ++ more }) bytes
