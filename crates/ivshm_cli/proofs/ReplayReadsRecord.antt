-- `replay` reads what `sim` wrote as the record that `sim` wrote.
use Rattle.std.proofs.Common.{◌≡◌, ◌∙◌, ap, Result, Ok, Err, ℕ, ◌≤◌, List, length, refl, sym, subst}
use Rattle.std.proofs.lemmas.Bool.{le-ltb, ltb-false}
use Rattle.std.specs.Prelude.{Some, MatchBool, false}
use Rattle.scenario_text.specs.Spelling as scenario
use Rattle.scenario_text.specs.declared.limits.TheConstants.{LONGEST_TEXT}
use Rattle.record_text.specs.declared.limits.TheConstants.{LONGEST_RECORD}
use Rattle.line_format.specs.Machine.{Wrong}
use Rattle.line_format.specs.Texts.{said}
use Rattle.record_text.specs.declared.faults.RecordCause.{RecordCause}
use Rattle.record_text.specs.declared.faults.RecordFault.{RecordFault}
use Rattle.record_text.specs.Judge.{Part, reading, record_in, sense}
use Rattle.record_text.specs.Spelling.{Record, IsSpelling}
use Rattle.record_text.proofs.ReadIsSpelled.{Reads, is_read}
use Rattle.record_sizes.specs.Sizes.{RecordsAreWithinLimit}
use Rattle.trace_replay.specs.declared.verdict.Verdict.TheVariants.{Same}
use Rattle.program_edge.specs.declared.words.Command.TheVariants.{Sim, Replay}
use Rattle.ivshm_cli.specs.declared.refusals.Fault.TheVariants.{TooLong}
use Rattle.program_edge.specs.declared.exit.Status.{Status}
use Rattle.program_edge.specs.declared.exit.Status.TheVariants.{Done, Differs}
use Rattle.trace_replay.specs.VerdictText.{verdict_line}
use Rattle.ivshm_cli.specs.Replay.{SpellsLawful}
use Rattle.ivshm_cli.specs.Forms.{IsTextVerdict, Replies}
use Rattle.program_edge.specs.Inputs.{passes}
use Rattle.program_edge.specs.Words.{limit_of}
use Rattle.ivshm_cli.specs.Due.{Follows}
use Rattle.ivshm_cli.specs.Whole.{WrittenRecordsReplayAsSame}
use Rattle.ivshm_cli.proofs.ReplayFindsOne.{not_both, unlawful_of, record_unrefused, unrefused}

-- Bytes that are read as a record spell it.
spelled_by : (bytes : List ℕ) (r : Record) (result : Result Part (Wrong RecordCause)) → reading bytes ≡ result → said sense result ≡ Ok r → IsSpelling r bytes
spelled_by bytes r (Err wrong) is answered = absurd (cc)
spelled_by bytes r (Ok part) is answered = elim (is_read bytes part is) [
  | Reads version world lines whole spelled ↦
      let both : ◌≡◌ {A = Result Record RecordFault} (Ok (record { version = version; world = world; lines = lines })) (Ok r) = sym (ap record_in whole) ∙ answered in
      let same : record { version = version; world = world; lines = lines } ≡ r = cc in
      subst (λ (x : Record). IsSpelling x bytes) same spelled
]

-- The one answer to a record of a lawful history is `same`.
lawful_is_same : (text found : List ℕ) (status : Status) → SpellsLawful text → Replies Replay text status found → (status ≡ Done) × (found ≡ verdict_line Same)
lawful_is_same text found Done lawful replies = (refl, replies.printed)
lawful_is_same text found Differs lawful replies = absurd (not_both text lawful (unlawful_of text replies.fault replies.difference))
lawful_is_same text found _ lawful replies = absurd replies

pub rereads : RecordsAreWithinLimit → WrittenRecordsReplayAsSame
rereads within bytes text found status wrote due =
    let sim = unrefused Sim bytes Done text (λ e. cc) wrote in
    let is = sim.1 in
    let r : Record = record { version = 2; world = is.world; lines = is.history } in
    let spelled = spelled_by text r (reading text) refl is.again in
    let few : length (scenario.spelling r.world) ≤ LONGEST_TEXT = subst (λ (b : List ℕ). length b ≤ LONGEST_TEXT) is.spelled.1 (ltb-false LONGEST_TEXT (length bytes) sim.0) in
    let most : length text ≤ LONGEST_RECORD = subst (λ (t : List ℕ). length t ≤ LONGEST_RECORD) (sym spelled.1) (within r spelled.0 is.lawful few) in
    let short : passes (limit_of Replay) text ≡ false = le-ltb LONGEST_RECORD (length text) most in
    let verdict = subst (λ b. MatchBool b (due.0 ≡ Some TooLong) (IsTextVerdict Replay text due.0)) short due.1 in
    let none = record_unrefused text is.world 2 is.history due.0 spelled verdict in
    let lawful : SpellsLawful text = record { world = is.world; version = 2; history = is.history; spelled = spelled; lawful = is.lawful } in
    lawful_is_same text found status lawful (subst (λ o. Follows Replay text status found o) none due.2)
