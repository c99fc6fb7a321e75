-- The obligations of the top call: the cause of each status, and the text written.
use Rattle.std.specs.Prelude.{ℕ, ◌≡◌, ◌+◌, ◌⊎◌, List, codes, Option, Some, None, Err}
use Rattle.ivs_base.specs.SourceAndSink.{Input, Output, Gave, GaveCount, HasEnded, Took, SourceFailed, SinkFailed}
use Rattle.record_text.specs.declared.faults.RecordFault.{RecordFault}
use Rattle.record_text.specs.Spelling.{Record, IsSpelling}
use Rattle.record_text.specs.Judge.{answer}
use Rattle.trace_replay.specs.declared.verdict.Verdict.{Verdict}
use Rattle.trace_replay.specs.declared.verdict.Verdict.TheVariants as verdicts
use Rattle.trace_replay.specs.Texts.{IsVerdictOfText}
use Rattle.record_chart.specs.Pictures.{IsPicture}
use Rattle.ivshm_chart.specs.declared.words.Span.{Span}
use Rattle.ivshm_chart.specs.declared.words.Form.{Form}
use Rattle.ivshm_chart.specs.declared.replies.Drawn.{Drawn}
use Rattle.program_edge.specs.declared.limits.TheConstants.{RECORD_LIMIT}
use Rattle.program_edge.specs.declared.exit.Status.{Status}
use Rattle.program_edge.specs.declared.exit.Status.TheVariants.{Done, Usage, Refused, ReadFault, WriteFault, NoMemory}
use Rattle.program_edge.specs.Refusals.{refusal_line_of, of_record}

abbrev pub usage_line : List ℕ
usage_line = codes "usage: ivshm_chart [--text] [FROM TO]\n"

-- The line at which a record differs from the lawful history of its scenario.
abbrev pub differing : Verdict → Option ℕ
differing verdicts.Same = None
differing (verdicts.Differs fault) = Some fault.line

-- The line that the picture marks is that of the verdict of `ivshm replay`.
abbrev pub IsMark : List ℕ → Option ℕ → Type 0
IsMark bytes differs = (verdict : Verdict) × IsVerdictOfText bytes verdict × (differs ≡ differing verdict)

-- The bytes spell a record, and the picture is one of the wanted lines, with its mark.
abbrev pub Draws : Span → List ℕ → Option Drawn → Type 0
Draws span bytes None = ⊥
Draws span bytes (Some drawn) =
    (r : Record) × IsSpelling r bytes × IsPicture r.world r.lines span.first span.last drawn.picture × IsMark bytes drawn.differs

-- The bytes spell no record, and the text is the line that says why.
abbrev pub IsRefusal : List ℕ → (text : List ℕ) → Type 0
IsRefusal bytes text = (fault : RecordFault) × (answer bytes ≡ Err fault) × (text ≡ refusal_line_of (of_record fault))

-- The reply to the input: its status, its text and its picture.
abbrev pub IsReply : Span → List ℕ → Status → (text : List ℕ) → Option Drawn → Type 0
IsReply span bytes Done text drawn = Draws span bytes drawn
IsReply span bytes Refused text drawn = IsRefusal bytes text × (drawn ≡ None)
IsReply span bytes _ text drawn = ⊥

-- A record was read to its end, and a whole text was written. `drawn` is the picture that the text
-- shows.
pub record Charts (span : Span) (before now : Input) (before' now' : Output) (drawn : Option Drawn) : Type 0 where
  pub bytes : List ℕ
  pub text : List ℕ
  pub gave : Gave before bytes now
  pub ended : HasEnded now
  pub draws : Draws span bytes drawn
  pub wrote : Took before' text now'

-- The text is the line for an input that is longer than the limit, or spells no record.
abbrev pub IsWhy : (before now : Input) → (text : List ℕ) → Type 0
IsWhy before now text = ((text ≡ codes "refused 0 TooLong\n") × GaveCount before (RECORD_LIMIT + 1) now) ⊎
    ((bytes : List ℕ) × Gave before bytes now × HasEnded now × IsRefusal bytes text)

-- The line of `IsWhy` was written.
pub record Refuses (before now : Input) (before' now' : Output) : Type 0 where
  pub text : List ℕ
  pub why : IsWhy before now text
  pub wrote : Took before' text now'

-- Each status has its cause.
abbrev pub HasCause : Status → Option Form → (before now : Input) → (before' now' : Output) → Option Drawn → Type 0
HasCause Done (Some form) before now before' now' drawn = Charts form.span before now before' now' drawn
HasCause Usage None before now before' now' drawn = (now ≡ before) × Took before' usage_line now'
HasCause Refused (Some form) before now before' now' drawn = Refuses before now before' now'
HasCause ReadFault form before now before' now' drawn = SourceFailed before now × (now' ≡ before')
HasCause WriteFault form before now before' now' drawn = SinkFailed before' now'
HasCause NoMemory form before now before' now' drawn = now' ≡ before'
HasCause _ _ before now before' now' drawn = ⊥
