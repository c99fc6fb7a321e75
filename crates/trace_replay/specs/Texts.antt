-- The verdict on a record's text.
use Rattle.std.specs.Prelude.{ℕ, List}
use Rattle.scenario_text.specs.Scenario.{World}
use Rattle.lawful_history.specs.declared.line.Line.{Line}
use Rattle.record_text.specs.Spelling.{IsSpelling}
use Rattle.trace_replay.specs.declared.verdict.Verdict.{Verdict}
use Rattle.trace_replay.specs.Verdict.{IsVerdict}

-- The bytes spell the record of a scenario and of a history, and this is the verdict on it.
pub record IsVerdictOfText (bytes : List ℕ) (verdict : Verdict) : Type 0 where
  pub version : ℕ
  pub world : World
  pub lines : List Line
  pub spelled : IsSpelling (record { version = version; world = world; lines = lines }) bytes
  pub verdict_is : IsVerdict world version lines verdict
