-- A text is read exactly if it is the spelling of what is read.
use Rattle.std.proofs.Common.{◌≡◌, ℕ, List, [], Result, Ok, Err, refl, sym, ap, subst, ◌∙◌}
use Rattle.std.specs.Result.{IsErrAnd}
use Rattle.line_format.specs.declared.reading.TextFault.{TextFault}
use Rattle.line_format.specs.Reading.{Reads}
use Rattle.lawful_history.specs.declared.line.Line.{Line}
use Rattle.scenario_text.specs.Scenario.{World}
use Rattle.scenario_text.specs.Judge.{DraftView, at_start, world_of_draft}
use Rattle.line_format.proofs.AnswerLaws.{refuses}
use Rattle.record_text.specs.declared.drafts.RecordPosition.{RecordPosition}
use Rattle.record_text.specs.declared.drafts.RecordPosition.TheVariants.{AtFirst, AtScenario, AtHistory, Ended}
use Rattle.record_text.specs.declared.faults.RecordCause.{RecordCause}
use Rattle.record_text.specs.declared.faults.RecordFault.{RecordFault}
use Rattle.record_text.specs.declared.trace.Trace.{Trace}
use Rattle.record_text.specs.Spelling.{Record, IsSpelling}
use Rattle.record_text.specs.Judge.{Part, Whole, reading, sense}
use Rattle.record_text.specs.Drafts.{part_at}
use Rattle.record_text.specs.Answers.{Refuses, Answers, fault_of_text}
use Rattle.record_text.proofs.SpelledIsRead.{is_answered}
use Rattle.record_text.proofs.ReadIsSpelled.{Reads as HasSpelling, is_read}

-- The lines so far are all of the text.
pub record IsAll (position : RecordPosition) (version : ℕ) (head : DraftView) (lines : List Line) (bytes : List ℕ) : Type 0 where
  pub ended : position ≡ Ended
  pub spelled : IsSpelling (record { version = version; world = world_of_draft head; lines = lines }) bytes

abbrev whole_record : Part → Record
whole_record (Whole version w lines) = record { version = version; world = w; lines = lines }
whole_record p = record { version = 0; world = world_of_draft at_start; lines = [] }

same_whole : (m n : ℕ) (w v : World) (lines ls : List Line) → Whole m w lines ≡ Whole n v ls → ◌≡◌ {A = Record} (record { version = m; world = w; lines = lines }) (record { version = n; world = v; lines = ls })
same_whole m n w v lines ls is = ap whole_record is

at_end : (position : RecordPosition) (version : ℕ) (head : DraftView) (lines : List Line) (bytes : List ℕ) (n : ℕ) (w : World) (ls : List Line) → part_at position version head lines ≡ Whole n w ls → IsSpelling (record { version = n; world = w; lines = ls }) bytes → IsAll position version head lines bytes
at_end AtFirst version head lines bytes n w ls is spelled = absurd cc
at_end AtScenario version head lines bytes n w ls is spelled = absurd cc
at_end AtHistory version head lines bytes n w ls is spelled = absurd cc
at_end Ended version head lines bytes n w ls is spelled =
    let same = same_whole version n (world_of_draft head) w lines ls is in
    record { ended = refl; spelled = subst (λ (r : Record). IsSpelling r bytes) (sym same) spelled }

pub is_all : (position : RecordPosition) (version : ℕ) (head : DraftView) (lines : List Line) (bytes : List ℕ) → reading bytes ≡ Ok (part_at position version head lines) → IsAll position version head lines bytes
is_all position version head lines bytes is = elim (is_read bytes (part_at position version head lines) is) [ HasSpelling n w ls same spelled ↦ at_end position version head lines bytes n w ls same spelled ]

pub is_spelled : (position : RecordPosition) (version : ℕ) (head : DraftView) (lines : List Line) (bytes : List ℕ) (r : Record) → reading bytes ≡ Ok (part_at position version head lines) → r ≡ record { version = version; world = world_of_draft head; lines = lines } → IsSpelling r bytes
is_spelled position version head lines bytes r is same = subst (λ (x : Record). IsSpelling x bytes) (sym same) (is_all position version head lines bytes is).spelled

pub only_ok : (bytes : List ℕ) (said r : Record) → IsSpelling said bytes → IsSpelling r bytes → ◌≡◌ {A = Result Record RecordFault} (Ok r) (Ok said)
only_ok bytes said r is spelled = sym (is_answered r bytes spelled) ∙ is_answered said bytes is

pub only_err : {D : Type 0} (bytes : List ℕ) (view : D → Part) (fault : TextFault RecordCause) (result : Result Trace RecordFault) → IsErrAnd result (λ e. e ≡ fault_of_text fault) → Reads view (Err fault) (reading bytes) → (r : Record) → IsSpelling r bytes → Answers result (Ok r)
only_err bytes view fault (Ok trace) gives is r spelled = absurd gives
only_err bytes view fault (Err e) gives is r spelled = rw gives (subst (λ (said : Result Record RecordFault). Refuses (fault_of_text fault) said) (is_answered r bytes spelled) (refuses sense refl view fault (reading bytes) is))
