-- The answers of the forms that read a record.
use Rattle.std.specs.Prelude.{ℕ, ◌≡◌, List, Some, Err}
use Rattle.scenario_text.specs.Spelling.{world_of}
use Rattle.lawful_history.specs.Lawful.{IsLawfulIn}
use Rattle.record_text.specs.declared.faults.RecordFault.{RecordFault}
use Rattle.record_text.specs.declared.trace.Trace.{Trace}
use Rattle.record_text.specs.Spelling.{Record, IsSpelling, record_of}
use Rattle.record_text.specs.Judge.{answer}
use Rattle.trace_replay.specs.Verdict.{IsDifference}
use Rattle.ivshm_explain.specs.declared.differences.Difference.{Difference}
use Rattle.program_edge.specs.declared.refusals.Refusal.{Refusal}
use Rattle.ivshm_explain.specs.declared.verdicts.Verdict.{Verdict}
use Rattle.ivshm_explain.specs.declared.verdicts.Verdict.TheVariants.{Accepted, Refused, Differs}
use Rattle.program_edge.specs.Refusals.{of_record}

-- The text is no record, and the refusal is that of its first fault.
pub record IsRecordFault (bytes : List ℕ) (refusal : Refusal) : Type 0 where
  pub fault : RecordFault
  pub first : answer bytes ≡ Err fault
  pub refuses : of_record fault ≡ Some refusal

-- The fault is where the record differs from each lawful history of its scenario, and the lawful
-- lines are those of one.
pub record IsFound (d : Difference) : Type 0 where
  pub differs : IsDifference (world_of d.trace.scenario) d.trace.version d.trace.lines d.fault
  pub lawful : IsLawfulIn (world_of d.trace.scenario) d.trace.version d.lawful

-- The answer of `replay` to a record.
abbrev pub IsReplayed : Trace → Verdict → Type 0
IsReplayed trace Accepted = IsLawfulIn (world_of trace.scenario) trace.version trace.lines
IsReplayed trace (Differs d) = (d.trace ≡ trace) × IsFound d
IsReplayed trace _ = ⊥

-- The bytes spell the record that differs.
abbrev pub IsFoundIn : List ℕ → Difference → Type 0
IsFoundIn bytes d = IsSpelling (record_of d.trace) bytes × IsFound d

abbrev pub IsRecordVerdict : List ℕ → Verdict → Type 0
IsRecordVerdict bytes Accepted = (r : Record) × IsSpelling r bytes × IsLawfulIn r.world r.version r.lines
IsRecordVerdict bytes (Refused refusal) = IsRecordFault bytes refusal
IsRecordVerdict bytes (Differs d) = IsFoundIn bytes d
