-- A record's text and the lawful history, line by line.
use Rattle.std.proofs.Common.{◌≡◌, ℕ, ◌+◌, Bool, true, false, List, [], ◌∷◌, ◌++◌, length, Option, Some, None, Result, Ok, Err, refl, sym, ap, subst, ◌∙◌, arith, length-append}
use Rattle.scenario_text.specs.Scenario.{World}
use Rattle.scenario_text.specs.declared.scenarios.Scenario.{Scenario}
use Rattle.lawful_history.specs.Sides.{world_of}
use Rattle.lawful_history.specs.declared.line.Line.{Line}
use Rattle.lawful_history.specs.Lawful.{IsLawfulIn}
use Rattle.record_text.specs.declared.reader.Reader.{Reader}
use Rattle.record_text.specs.declared.faults.RecordFault.{RecordFault}
use Rattle.std.specs.Prelude.{IfErr}
use Rattle.std.specs.Result.{IsErrAnd}
use Rattle.record_text.specs.Readers.{IsReading, ReadsOn, GoesPast}
use Rattle.record_text.specs.Judge.{answer}
use Rattle.record_text.specs.Answers.{Refuses}
use Rattle.record_text.specs.Spelling.{IsSpelling}
use Rattle.link_model.specs.declared.expected_run.ExpectedRun.{ExpectedRun}
use Rattle.link_model.specs.declared.fault.Unlawful.{Unlawful}
use Rattle.link_model.specs.ScenarioParts.{world_of_parts}
use Rattle.link_model.specs.ExpectedRun.{world_in, GoesOn}
use Rattle.link_model.specs.Difference.{Differs, Leaves}
use Rattle.link_model.proofs.DifferingLines.{leaves_longer, not_lawful}
use Rattle.trace_replay.specs.declared.verdict.Verdict.TheVariants as verdicts
use Rattle.trace_replay.specs.Beside.{IsBeside, IsRead}
use Rattle.trace_replay.specs.Texts.{IsVerdictOfText}
use Rattle.trace_replay.proofs.Verdicts.{differing}

pub went_past : (bytes : List ℕ) (version : ℕ) (world : World) (before lines : List Line) (b : Bool) (now : Reader) → b ≡ true → GoesPast bytes version world before lines b now → IsReading bytes version world (before ++ lines) now
went_past bytes version world before lines true now is_true past = past
went_past bytes version world before lines false now is_true past = absurd cc

pub stayed : (bytes : List ℕ) (version : ℕ) (world : World) (before lines : List Line) (b : Bool) (now : Reader) → b ≡ false → GoesPast bytes version world before lines b now → IsReading bytes version world before now
stayed bytes version world before lines false now is_false past = past
stayed bytes version world before lines true now is_false past = absurd cc

-- The expected run and the reader continue by the same lines.
pub both_go_on : (bytes : List ℕ) (expected_run expected_run' : ExpectedRun) (reader : Reader) (lines : List Line) → expected_run'.scenario ≡ expected_run.scenario → expected_run'.version ≡ expected_run.version →
    IsReading bytes expected_run.version (world_in expected_run) lines reader → GoesOn lines expected_run' → IsBeside bytes expected_run' reader
both_go_on bytes expected_run expected_run' reader lines scenario version reads goes = record {
  lines = lines;
  reads = subst (λ (v : ℕ). IsReading bytes v (world_in expected_run') lines reader) (sym version) (subst (λ (w : World). IsReading bytes expected_run.version w lines reader) (sym (ap world_of_parts scenario)) reads);
  goes = goes;
}

-- At the start nothing was read.
pub nothing_read : (bytes : List ℕ) (version : ℕ) (scenario : Scenario) (expected_run : ExpectedRun) (reader : Reader) → IsReading bytes version (world_of scenario) [] reader →
    GoesOn [] expected_run × (world_in expected_run ≡ world_of scenario) × (expected_run.version ≡ version) → IsBeside bytes expected_run reader
nothing_read bytes version scenario expected_run reader reads begun = record {
  lines = [];
  reads = subst (λ (v : ℕ). IsReading bytes v (world_in expected_run) [] reader) (sym begun.2) (subst (λ (w : World). IsReading bytes version w [] reader) (sym begun.1) reads);
  goes = begun.0;
}

-- A line that leaves the lawful history, with those after it.
pub leaves : (bytes : List ℕ) (version : ℕ) (world : World) (lines : List Line) (fault : Unlawful) → IsRead bytes version world lines → Leaves world version lines fault → IsVerdictOfText bytes (verdicts.Differs fault)
leaves bytes version world lines fault read left = record {
  version = version;
  world = world;
  lines = lines ++ read.more;
  spelled = read.spelled;
  verdict_is = differing world version (lines ++ read.more) fault (leaves_longer world version lines read.more fault left).differs;
}

-- A line is missing at the end.
pub is_short : (bytes : List ℕ) (version : ℕ) (world : World) (lines : List Line) (fault : Unlawful) → IsSpelling (record { version = version; world = world; lines = lines }) bytes → Differs world version lines fault → IsVerdictOfText bytes (verdicts.Differs fault)
is_short bytes version world lines fault spelled differs = record { version = version; world = world; lines = lines; spelled = spelled; verdict_is = differing world version lines fault differs }

pub is_same : (bytes : List ℕ) (version : ℕ) (world : World) (lines : List Line) → IsSpelling (record { version = version; world = world; lines = lines }) bytes → IsLawfulIn world version lines → IsVerdictOfText bytes verdicts.Same
is_same bytes version world lines spelled lawful = record { version = version; world = world; lines = lines; spelled = spelled; verdict_is = lawful }

-- A fault that is passed on is the text's.
pub passed_on : {T : Type 0} (bytes : List ℕ) (fault : RecordFault) (result : Result T RecordFault) → IsErrAnd result (λ e. e ≡ fault) → Refuses fault (answer bytes) → IfErr result (λ f. Refuses f (answer bytes))
passed_on bytes fault (Ok value) gives refuses = tt
passed_on bytes fault (Err e) gives refuses = subst (λ (f : RecordFault). Refuses f (answer bytes)) (sym gives) refuses
