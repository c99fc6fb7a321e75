-- The finding of `replay` in a record, and its uniqueness.
use Rattle.std.proofs.Common.{◌≡◌, ◌≢◌, ℕ, List, length, refl, sym, ◌∙◌, ap, subst}
use Rattle.std.proofs.lemmas.Bool.{ltb-false}
use Rattle.std.specs.Prelude.{Bool, true, false, Option, Some, None, IfSome, MatchBool}
use Rattle.ivs_base.specs.SourceAndSink.{Input, Output, Took}
use Rattle.scenario_text.specs.Scenario.{World}
use Rattle.lawful_history.specs.declared.line.Line.{Line}
use Rattle.lawful_history.specs.Sessions.{recorded_in}
use Rattle.lawful_history.specs.Lawful.{IsLawfulIn}
use Rattle.link_model.specs.declared.fault.Unlawful.{Unlawful}
use Rattle.record_text.specs.Spelling.{Record, IsSpelling}
use Rattle.record_text.proofs.SpelledIsRead.{is_answered}
use Rattle.program_edge.specs.declared.words.Command.{Command}
use Rattle.program_edge.specs.declared.words.Command.TheVariants.{Run, Replay, Renew, Capture}
use Rattle.ivshm_cli.specs.declared.refusals.Fault.{Fault}
use Rattle.ivshm_cli.specs.declared.refusals.Fault.TheVariants.{TooLong}
use Rattle.program_edge.specs.declared.exit.Status.{Status}
use Rattle.program_edge.specs.declared.exit.Status.TheVariants.{Done, Differs, Refused}
use Rattle.ivshm_cli.specs.Replay.{Spells, SpellsLawful, SpellsUnlawful, SpellsDifference, IsDifferent, IsRenewed, FindsSame, FindsDifference}
use Rattle.ivshm_cli.specs.declared.runs.Ran.{Ran}
use Rattle.ivshm_cli.specs.Running.{RunsPeers}
use Rattle.ivshm_cli.specs.Capture.{IsCaptureOf}
use Rattle.ivshm_cli.specs.Forms.{record_fault, ReadsRecords, IsTextVerdict, IsVerdict, Replies}
use Rattle.program_edge.specs.Inputs.{passes, HasRead, HasReadToTheEnd}
use Rattle.program_edge.specs.Words.{limit_of}
use Rattle.program_edge.specs.declared.limits.TheConstants.{RECORD_LIMIT}
use Rattle.ivshm_cli.specs.Due.{IsDue, Follows, HasCause, WritesReply, WritesAnswer}

-- ---- records

-- Bytes spell at most one record.
one_record : (bytes : List ℕ) (r other : Record) → IsSpelling r bytes → IsSpelling other bytes → r ≡ other
one_record bytes r other is is' = let e = sym (is_answered r bytes is) ∙ is_answered other bytes is' in cc

-- The text of a record isn't refused.
pub record_unrefused : (bytes : List ℕ) (world : World) (version : ℕ) (history : List Line) (found : Option Fault) → Spells bytes world version history →
    IsTextVerdict Replay bytes found → found ≡ None
record_unrefused bytes world version history found spelled verdict =
    sym verdict ∙ ap record_fault (is_answered (record { version = version; world = world; lines = history }) bytes spelled)

-- The history of a record isn't both lawful and not lawful.
pub not_both : (bytes : List ℕ) → SpellsLawful bytes → SpellsUnlawful bytes → ⊥
not_both bytes is isnt =
    let same = one_record bytes (record { version = is.version; world = is.world; lines = is.history })
    (record { version = isnt.version; world = isnt.world; lines = isnt.history }) is.spelled isnt.spelled in
    isnt.unlawful (subst (λ (r : Record). IsLawfulIn r.world r.version r.lines) same is.lawful)

pub unlawful_of : (bytes : List ℕ) (fault : Unlawful) → SpellsDifference bytes fault → SpellsUnlawful bytes
unlawful_of bytes fault is = record {
  world = is.world;
  version = is.version;
  history = is.history;
  spelled = is.spelled;
  unlawful = is.difference.unlawful;
}

pub lawful_of : (peer : ℕ) (bytes text : List ℕ) → IsCaptureOf peer bytes text → SpellsLawful bytes
lawful_of peer bytes text is = record { world = is.world; version = is.version; history = is.history; spelled = is.spelled; lawful = is.lawful }

pub lawful_of_renewed : (bytes text : List ℕ) → IsRenewed bytes text → SpellsLawful bytes
lawful_of_renewed bytes text is = record {
  world = is.world;
  version = is.version;
  history = recorded_in is.world is.version is.history;
  spelled = is.spelled;
  lawful = (is.history, is.lawful, refl);
}

-- ---- what is due

short_of : (long : Bool) (found : Option Fault) (A : Type 0) → found ≡ None → MatchBool long (found ≡ Some TooLong) A → long ≡ false
short_of true found A none h = cc
short_of false found A none h = refl

-- Bytes that aren't refused are within the limit, and the command answers them.
pub unrefused : (form : Command) (bytes : List ℕ) (status : Status) (text : List ℕ) → status ≢ Refused → IsDue (Some form) bytes status text → (passes (limit_of form) bytes ≡ false) × Replies form bytes status text
unrefused form bytes status text answered due = from due.0 due.1 due.2 where
  from : (found : Option Fault) → IsVerdict form bytes found → Follows form bytes status text found → (passes (limit_of form) bytes ≡ false) × Replies form bytes status text
  from None verdict follows = (short_of (passes (limit_of form) bytes) None (IsTextVerdict form bytes None) refl verdict, follows)
  from (Some fault) verdict follows = absurd (answered follows.0)

-- ---- what the top call did

-- The source was read to its end.
to_the_end : (limit : Option ℕ) (before now : Input) (bytes : List ℕ) → passes limit bytes ≡ false → HasRead limit before now bytes → HasReadToTheEnd limit before now bytes
to_the_end None before now bytes short read = read
to_the_end (Some limit) before now bytes short read = (read.taken, read.whole (ltb-false limit (length bytes) short))

-- A reply that is no refusal.
pub answer_of : (form : Command) (status : Status) (before now : Input) (before' now' : Output) (ran : Option Ran) → status ≢ Refused → WritesReply (Some form) before now before' now' ran status → WritesAnswer form status before now before' now' ran
answer_of form status before now before' now' ran answered w =
    let found = unrefused form w.bytes status w.text answered w.due in
    record {
      bytes = w.bytes;
      text = w.text;
      read = to_the_end (limit_of form) before now w.bytes found.0 w.read;
      replies = found.1;
      left = w.left;
      wrote = w.wrote;
    }

-- Only a command that reads records answers Differs.
differs_of : (form : Command) (bytes text : List ℕ) → Replies form bytes Differs text → ReadsRecords form × IsDifferent bytes text × (limit_of form ≡ Some RECORD_LIMIT)
differs_of Replay bytes text h = (tt, h, refl)
differs_of Renew bytes text h = (tt, h, refl)
differs_of (Capture peer) bytes text h = (tt, h, refl)
differs_of _ bytes text h = absurd h

module _ (before now : Input) (before' now' : Output) where
  peers_left : (ran : Option Ran) → WritesAnswer Run Done before now before' now' ran → RunsPeers before now before' now' ran
  peers_left None w = absurd w.left
  peers_left (Some held) w = record {
    bytes = w.bytes;
    text = w.text;
    held = held;
    read = w.read.0;
    ended = w.read.1;
    is = refl;
    run = w.left;
    wrote = w.wrote;
  }

module _ (before now : Input) (before' now' : Output) (ran : Option Ran) where
  pub runs_peers : (form : Option Command) (status : Status) → form ≡ Some Run → status ≡ Done → HasCause status form before now before' now' ran → RunsPeers before now before' now' ran
  runs_peers form status is done cause =
      let ended = subst (λ s. HasCause s form before now before' now' ran) done cause in
      peers_left before now before' now' ran (subst (λ f. HasCause Done f before now before' now' ran) is ended)

  pub finds_same : (form : Option Command) (status : Status) → form ≡ Some Replay → status ≡ Done → HasCause status form before now before' now' ran → FindsSame before now before' now'
  finds_same form status is done cause =
      let ended = subst (λ s. HasCause s form before now before' now' ran) done cause in
      let w : WritesAnswer Replay Done before now before' now' ran = subst (λ f. HasCause Done f before now before' now' ran) is ended in
      record {
        bytes = w.bytes;
        read = w.read.0;
        ended = w.read.1;
        lawful = w.replies.lawful;
        wrote = subst (λ (t : List ℕ). Took before' t now') w.replies.printed w.wrote;
      }

  -- Only commands that read records answer Differs.
  records_alone : (form : Option Command) → HasCause Differs form before now before' now' ran → IfSome form ReadsRecords
  records_alone (Some form) w = (differs_of form w.bytes w.text w.replies).0
  records_alone None w = absurd w

  pub only_records : (form : Option Command) (status : Status) → status ≡ Differs → HasCause status form before now before' now' ran → IfSome form ReadsRecords
  only_records form status differs cause = records_alone form (subst (λ s. HasCause s form before now before' now' ran) differs cause)

  difference_of : (form : Option Command) → HasCause Differs form before now before' now' ran → FindsDifference before now before' now'
  difference_of None w = absurd w
  difference_of (Some form) w =
      let found = differs_of form w.bytes w.text w.replies in
      let read = subst (λ limit. HasReadToTheEnd limit before now w.bytes) found.2 w.read in
      record {
        bytes = w.bytes;
        read = read.0;
        ended = read.1;
        fault = found.1.fault;
        difference = found.1.difference;
        wrote = subst (λ (t : List ℕ). Took before' t now') found.1.printed w.wrote;
      }

  pub finds_difference : (form : Option Command) (status : Status) → status ≡ Differs → HasCause status form before now before' now' ran → FindsDifference before now before' now'
  finds_difference form status differs cause = difference_of form (subst (λ s. HasCause s form before now before' now' ran) differs cause)
