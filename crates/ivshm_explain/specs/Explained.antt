-- The proved part of an explanation. The words after that are free.
use Rattle.std.specs.Prelude.{ℕ, ◌≡◌, ◌⊎◌, List, [], ◌++◌, codes, Option, Some, None}
use Rattle.ivs_base.specs.SourceAndSink.{Input, Output, Took, SourceFailed, SinkFailed}
use Rattle.ivshm_explain.specs.declared.differences.Difference.{Difference}
use Rattle.ivshm_explain.specs.DifferenceText.{IsDifferenceText}
use Rattle.program_edge.specs.declared.words.Command.{Command}
use Rattle.program_edge.specs.declared.refusals.Refusal.{Refusal}
use Rattle.program_edge.specs.declared.refusals.Place.TheVariants.{Whole}
use Rattle.program_edge.specs.declared.refusals.Reason.TheVariants.{TooLong}
use Rattle.program_edge.specs.declared.exit.Status.{Status}
use Rattle.program_edge.specs.declared.exit.Status.TheVariants.{Done, Differs, Usage, Refused, ReadFault, WriteFault, NoMemory}
use Rattle.ivshm_explain.specs.declared.verdicts.Verdict.TheVariants as verdicts
use Rattle.program_edge.specs.Words.{limit_of}
use Rattle.program_edge.specs.Inputs.{HasReadToTheEnd, IsTooLong}
use Rattle.ivshm_explain.specs.Places.{place_of}
use Rattle.program_edge.specs.Refusals.{verdict_of}
use Rattle.ivshm_explain.specs.Verdicts.{IsVerdict}

abbrev pub usage_line : List ℕ
usage_line = codes "usage: ivshm_explain sim | run | replay | renew | dump | config P | load N | capture P | feed P | ports | bridge\n"

-- The explanation begins with the line that `ivshm` answers, the faulty place and its contents.
pub record IsExplained (bytes : List ℕ) (refusal : Refusal) (text : List ℕ) : Type 0 where
  pub words : List ℕ
  pub is : text ≡ verdict_of refusal ++ place_of bytes refusal.place ++ words

-- the reply to bytes that were read: its status and its text
abbrev pub IsReply : Command → List ℕ → Status → (text : List ℕ) → Type 0
IsReply form bytes Done text = IsVerdict form bytes verdicts.Accepted
IsReply form bytes Refused text = (refusal : Refusal) × IsVerdict form bytes (verdicts.Refused refusal) × IsExplained bytes refusal text
IsReply form bytes Differs text = (difference : Difference) × IsVerdict form bytes (verdicts.Differs difference) × IsDifferenceText difference text
IsReply form bytes _ text = ⊥

-- bytes were read to their end, or none for `load`, and the whole reply to them was written
pub record Replies (form : Command) (before now : Input) (before' now' : Output) (status : Status) : Type 0 where
  pub bytes : List ℕ
  pub text : List ℕ
  pub read : HasReadToTheEnd (limit_of form) before now bytes
  pub reply : IsReply form bytes status text
  pub wrote : Took before' text now'

-- one byte more was read than the command reads, and the line that says so was written
pub record FindsTooMany (form : Command) (before now : Input) (before' now' : Output) : Type 0 where
  pub text : List ℕ
  pub gave : IsTooLong form before now
  pub explained : IsExplained [] (record { place = Whole; reason = TooLong }) text
  pub wrote : Took before' text now'

-- each status has its cause
abbrev pub HasCause : Status → Option Command → (before now : Input) → (before' now' : Output) → Type 0
HasCause Done (Some form) before now before' now' = Replies form before now before' now' Done
HasCause Refused (Some form) before now before' now' = Replies form before now before' now' Refused ⊎ FindsTooMany form before now before' now'
HasCause Differs (Some form) before now before' now' = Replies form before now before' now' Differs
HasCause Usage None before now before' now' = (now ≡ before) × Took before' usage_line now'
HasCause ReadFault form before now before' now' = SourceFailed before now × (now' ≡ before')
HasCause WriteFault form before now before' now' = SinkFailed before' now'
HasCause NoMemory form before now before' now' = now' ≡ before'
HasCause _ _ before now before' now' = ⊥
