-- Writing a record's text, part by part.
use Rattle.std.specs.Prelude.{◌≡◌, ◌+◌, ◌<◌, ◌^◌, ℕ, List, ◌++◌, length}
use Rattle.scenario_text.specs.Scenario.{World}
use Rattle.lawful_history.specs.declared.line.Line.{Line}
use Rattle.lawful_history.specs.Frames.{HaveFrames}
use Rattle.lawful_history.specs.Sessions.{recorded_in}
use Rattle.lawful_history.specs.History.{history}
use Rattle.record_text.specs.Spelling.{Record, AllFit}
use Rattle.record_text.specs.Growing.{history_text}
use Rattle.sim_world.specs.declared.record_writer.RecordWriter.{RecordWriter}

-- Between the two states these lines were appended and counted.
pub record HasRecorded (began recorded : RecordWriter) (lines : List Line) : Type 0 where
  pub text : recorded.text.items ≡ began.text.items ++ history_text lines
  pub count : recorded.count ≡ began.count + length lines
  pub few : recorded.count < 2 ^ 64
  pub fits : AllFit lines
  pub frames : HaveFrames lines

-- The record of this version of the scenario's one lawful history.
abbrev pub lawful_record : (version : ℕ) → World → Record
lawful_record version world = record { version = version; world = world; lines = recorded_in world version (history world) }
