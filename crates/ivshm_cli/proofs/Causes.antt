-- The cause of each status, from the contract of the work.
use Rattle.std.proofs.Common.{◌≡◌, ◌<◌, ◌⊎◌, ℕ, List, [], length, take, refl, sym, subst, inl, inr}
use Rattle.std.specs.Prelude.{Option, Some, None, Result, Ok, IfOk, true, IsTrue, IsSome}
use Rattle.ivs_base.specs.SourceAndSink.{Input, Output, Took, SourceFailed, SinkFailed, LastReadFailed, LastWriteFailed}
use Rattle.program_edge.specs.declared.words.Command.{Command}
use Rattle.ivshm_cli.specs.declared.refusals.Fault.{Fault}
use Rattle.program_edge.specs.declared.exit.Status.{Status}
use Rattle.program_edge.specs.declared.exit.Status.TheVariants.{Done, Differs, Usage, Refused, ReadFault, WriteFault, NoMemory}
use Rattle.ivshm_cli.specs.declared.runs.Ran.{Ran}
use Rattle.ivshm_cli.specs.Forms.{IsVerdict}
use Rattle.program_edge.specs.Exit.{has_reply}
use Rattle.ivshm_cli.specs.Due.{Follows, limit_for, writes_nothing, HasCause, WritesReply, WritesFront, WritesRefusal, Runs, usage_line}
use Rattle.ivshm_cli.proofs.ReplayFindsOne.{answer_of}
use Rattle.ivshm_cli.proofs.Complete.{not_refused, due_usage}

refusal_of : (form : Command) (before now : Input) (before' now' : Output) (ran : Option Ran) → WritesReply (Some form) before now before' now' ran Refused → WritesRefusal form before now before' now'
refusal_of form before now before' now' ran w = from w.due.0 w.due.1 w.due.2 where
  from : (found : Option Fault) → IsVerdict form w.bytes found → Follows form w.bytes Refused w.text found → WritesRefusal form before now before' now'
  from None verdict follows = absurd (not_refused form w.bytes w.text follows)
  from (Some fault) verdict follows = record {
    bytes = w.bytes;
    fault = fault;
    read = w.read;
    found = verdict;
    wrote = subst (λ (t : List ℕ). Took before' t now') follows.1 w.wrote;
  }

-- Words that are no command have one reply.
usage_alone : (status : Status) (before now : Input) (before' now' : Output) (ran : Option Ran) → WritesReply None before now before' now' ran status → status ≡ Usage
usage_alone status before now before' now' ran w = w.due.0

-- The promise of the work for a status.
pub record Work (form : Option Command) (before now : Input) (before' now' : Output) (ran : Option Ran) (result : Status) : Type 0 where
  pub reply : IsTrue (has_reply result) → WritesReply form before now before' now' ran result
  pub write_fault : result ≡ WriteFault → SinkFailed before' now' × WritesFront form before now before' now' ran
  pub last_write : result ≡ WriteFault → LastWriteFailed before' now'
  pub read_fault : result ≡ ReadFault → SourceFailed before now × IsSome (limit_for form)
  pub last_read : result ≡ ReadFault → LastReadFailed before now
  pub no_memory : result ≡ NoMemory → IsSome form
  pub quiet : writes_nothing result ≡ true → now' ≡ before'
  pub nothing_left : writes_nothing result ≡ true → ran ≡ None

module _ (before now : Input) (before' now' : Output) (ran : Option Ran) where
  pub caused : (result : Status) (form : Option Command) → Work form before now before' now' ran result → HasCause result form before now before' now' ran
  caused Done (Some form) work = answer_of form Done before now before' now' ran (λ e. cc) (work.reply refl)
  caused Done None work = absurd (let e = usage_alone Done before now before' now' ran (work.reply refl) in cc)
  caused Differs (Some form) work = answer_of form Differs before now before' now' ran (λ e. cc) (work.reply refl)
  caused Differs None work = absurd (let e = usage_alone Differs before now before' now' ran (work.reply refl) in cc)
  caused Usage None work = let w = work.reply refl in (subst (λ (t : List ℕ). Took before' t now') w.due.1 w.wrote, w.left)
  caused Usage (Some form) work = absurd (let w = work.reply refl in let e = due_usage (Some form) w.bytes w.text w.due in cc)
  caused Refused (Some form) work = (refusal_of form before now before' now' ran (work.reply refl), (work.reply refl).left)
  caused Refused None work = absurd (let e = usage_alone Refused before now before' now' ran (work.reply refl) in cc)
  caused ReadFault (Some form) work = let fault = work.read_fault refl in (fault.1, fault.0, work.last_read refl, work.quiet refl, work.nothing_left refl)
  caused ReadFault None work = absurd (let fault = (work.read_fault refl).1 in cc)
  caused WriteFault form work = let fault = work.write_fault refl in (fault.0, work.last_write refl, fault.1)
  caused NoMemory (Some form) work = (work.quiet refl, work.nothing_left refl)
  caused NoMemory None work = absurd (let some = work.no_memory refl in cc)

-- The cases of a status for which nothing is written.
pub unwritten : {A : Type 0} (result : Status) → (result ≡ ReadFault → A) → (result ≡ NoMemory → A) → writes_nothing result ≡ true → A
unwritten ReadFault read memory e = read refl
unwritten NoMemory read memory e = memory refl
unwritten _ read memory e = cc

-- ---- words that the program has, or can't have

pub of_words : {W E : Type 0} (words : Result W E) (w : W) (P : W → Type 0) → words ≡ Ok w → P w → IfOk words P
of_words words w P is p = subst (λ o. IfOk o P) (sym is) p

-- A call for words that are no command.
pub usage_runs : (before now : Input) (before' now' : Output) (ran : Option Ran) (result : Status) → now ≡ before → ran ≡ None → (result ≡ Usage) ⊎ (result ≡ WriteFault) →
    (IsTrue (has_reply result) → Took before' usage_line now') → (result ≡ WriteFault → (n : ℕ) × Took before' (take n usage_line) now') →
    (result ≡ WriteFault → SinkFailed before' now') → (result ≡ WriteFault → LastWriteFailed before' now') → (result ≡ WriteFault → before'.room < length usage_line) →
    Runs None before now before' now' ran result
usage_runs before now before' now' ran result still none cases whole part fault last short = record { cause = from result cases whole part fault last short; unread = λ _. still } where
  from : (s : Status) → (s ≡ Usage) ⊎ (s ≡ WriteFault) → (IsTrue (has_reply s) → Took before' usage_line now') → (s ≡ WriteFault → (n : ℕ) × Took before' (take n usage_line) now') →
      (s ≡ WriteFault → SinkFailed before' now') → (s ≡ WriteFault → LastWriteFailed before' now') → (s ≡ WriteFault → before'.room < length usage_line) → HasCause s None before now before' now' ran
  from Usage cases whole part fault last short = (whole refl, none)
  from WriteFault cases whole part fault last short = (
    fault refl,
    last refl,
    record {
      bytes = [];
      status = Usage;
      text = usage_line;
      read = (refl, sym still);
      due = (refl, refl);
      left = none;
      count = (part refl).0;
      wrote = (part refl).1;
      short = short refl;
    },
  )
  from _ cases whole part fault last short = absurd (elim cases [ inl e ↦ cc | inr e ↦ cc ])
