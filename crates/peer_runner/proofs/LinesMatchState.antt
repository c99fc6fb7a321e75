-- The end, sessions and doorbells by a running peer's lines are those that its turns leave.
use Rattle.std.proofs.Common.{◌≡◌, ◌≢◌, ℕ, zero, suc, ⊎_elim, Bool, true, false, List, [], ◌∷◌, ◌++◌, refl, sym, ap, ◌∙◌, subst}
use Rattle.std.specs.Prelude.{Some, None, ◌==◌, not, if◌then◌else◌, map, ◌%◌}
use Rattle.std.specs.Int.{bit_at}
use Rattle.split_ring.specs.declared.steps.Access.{Access}
use Rattle.split_ring.specs.declared.steps.Access.TheVariants as access
use Rattle.split_ring.specs.declared.ranges.FieldName.TheVariants as field_name
use Rattle.split_ring.specs.Ranges.{is_avail_index}
use Rattle.split_ring.specs.Spelling.{low_half, high_half}
use Rattle.call_grammar.specs.Steps.{Mark, value_given, Saw, Reclaim, Full, Accept, Look, Deliver, Over}
use Rattle.call_grammar.specs.Steps as mark
use Rattle.call_grammar.specs.Ends.{End, with_access, with_mark, with_marks}
use Rattle.call_grammar.specs.Calls.{EndConfig}
use Rattle.call_grammar.specs.Automatic.{choice_of}
use Rattle.call_grammar.specs.Offers.{wants_doorbell, refusal}
use Rattle.call_grammar.specs.Polls.{published_by, look_marks}
use Rattle.call_grammar.specs.Places.{Place, Closed, WritingState, Refusing, NotInRun, ReadingAvailEvent, RingingOffer, ReadingAvailIndex, RingingPoll, access_at, next_place, marks_at, step_at, is_open}
use Rattle.link_handshake.specs.PhaseTable.{state_of}
use Rattle.link_machine.specs.LinkMachine.{Side, initial_side, Wrote, WasReset, Log, no_sessions, log_after}
use Rattle.pair_sessions.specs.Numbers.{Numbers, number_of, own_side, numbers_after}
use Rattle.lawful_history.specs.declared.line.Line.{Line}
use Rattle.lawful_history.specs.declared.line.Line.TheVariants as line
use Rattle.lawful_history.specs.EventRecords.{access_lines, mark_line}
use Rattle.doorbell_irq.specs.declared.route.Route.{Route}
use Rattle.link_endpoint.specs.Plan.{place_for}
use Rattle.peer_runner.specs.declared.doorbell_paths.Done.{Done}
use Rattle.peer_runner.specs.declared.doorbell_paths.Done.TheVariants.{Stepped, Cleared, Rung}
use Rattle.peer_runner.specs.DoorbellPaths.{is_guarded, doorbell_path_in}
use Rattle.shared_words.specs.DerivedStates.{FrameNumber, accepted_last, delivered_next, DoorbellRequest, Nowhere, Written, At, event_word, request_after_access, lapsed, request_after_marks, Wake, wake_after, wake_on}
use Rattle.peer_runner.specs.Turns.{Turn, Looks, Enters, Restarts, interrupt_line, interrupt_lines, finds_nothing, is_quiet, lines_of, lines_in}
use Rattle.peer_runner.specs.RunningRecord.{RecordReader, initial_reader, side_in, with_carried, reader_after_line, reader_after_lines, ReaderMatches}
use Rattle.peer_runner.specs.Runners.{touches, Runner, initial_runner, call_chosen, place_in, value_done, IsDone, awaits_ring, due_word, turn_met, met_on, restarted_on, is_first, looked_on, held_on, stepped_on, turned, lines_on, woken_on, derived_state_of, HasMet}
use Rattle.shared_words.specs.declared.sessions.SessionWord.{SessionWord}
use Rattle.shared_words.specs.declared.sessions.SessionWord.TheVariants.{Own, Others}
use Rattle.shared_words.proofs.LinkOfSetup.{clash}
use Rattle.call_grammar.proofs.ReplaysAreCalls.{shut_place}
use Rattle.peer_runner.proofs.AutoTurns.{held_guards, held_line, turned_held, turned_stepped, IsEntering, IsMaking, stepped_kind}
use Rattle.shared_words.proofs.RequestsAreRung.{HasNoLook, IsPlain, plain_marks, plain_asked, plain_wake_missed, lapsed_by, lapsed_not, lapsed_free, lapsed_by_free, more_than, empty_marks, AsksAt, free_asks, asks_on}

-- Lines one after another

pub reports_none : (event : ℕ) (t : RecordReader) → reader_after_lines event t [] ≡ t
unfolding reader_after_lines
reports_none event t = refl

pub reports_both : (event : ℕ) (t : RecordReader) (xs ys : List Line) → reader_after_lines event t (xs ++ ys) ≡ reader_after_lines event (reader_after_lines event t xs) ys
unfolding reader_after_lines
reports_both event t [] ys = refl
reports_both event t (x ∷ xs) ys = reports_both event (reader_after_line event t x) xs ys

-- An end and its sessions, by the lines.
record Keeps (t : RecordReader) (end : End) (own : Log) : Type 0 where
  state : t.state ≡ state_of end.handshake.phase
  accepted : t.accepted ≡ end.accepted
  delivered : t.delivered ≡ end.delivered
  log : t.log ≡ own

abbrev side_kept : {t : RecordReader} {end : End} {log : Log} → Keeps t end log → side_in t ≡ own_side end
side_kept k = λ i. record initial_side { state = k.state i; accepted = k.accepted i; delivered = k.delivered i }

-- The lines of marks

-- The lines record the frames of the marks, and the requests after them.
record Counts (t u : RecordReader) (request : DoorbellRequest) (marks : List Mark) : Type 0 where
  kept : (end : End) (log : Log) → Keeps t end log → Keeps u (with_marks end marks) log
  asked : u.asked ≡ request
  missed : u.missed ≡ t.missed

-- A quiet call records no frame.
nothing_counts : (t : RecordReader) (marks : List Mark) → finds_nothing marks ≡ true → Counts t t t.asked marks
nothing_counts t (Saw value ∷ Over ∷ []) is = record { kept = λ end log k. k; asked = refl; missed = refl }
nothing_counts t (Look zero ∷ mark.Done ∷ []) is = record { kept = λ end log k. record { state = k.state; accepted = k.accepted; delivered = k.delivered; log = k.log }; asked = refl; missed = refl }
nothing_counts t (Reclaim zero ∷ Full ∷ []) is = record { kept = λ end log k. record { state = k.state; accepted = k.accepted; delivered = k.delivered; log = k.log }; asked = refl; missed = refl }
nothing_counts t marks is = absurd (cc)

quiet_counts : (first : Bool) (t : RecordReader) (a : Access) (marks : List Mark) → is_quiet first a marks ≡ true → Counts t t t.asked marks
quiet_counts true t (access.Read word) marks is = nothing_counts t marks is
quiet_counts false t (access.Read word) marks is = absurd (clash is)
quiet_counts first t _ marks is = absurd (clash is)

no_look : (p event : ℕ) (t : RecordReader) (marks : List Mark) → t.read ≡ false → HasNoLook marks → Counts t (reader_after_lines event t (map (mark_line p) marks)) (lapsed_by marks t.asked) marks
unfolding reader_after_lines
no_look p event t [] still none = record { kept = λ end log k. k; asked = refl; missed = refl }
no_look p event t (Look count ∷ marks) still none = absurd none
no_look p event t (Accept frame ∷ marks) still none = let rest = no_look p event (reader_after_line event t (line.Accept p frame)) marks refl none in record {
  kept = λ end log k. rest.kept (with_mark end (Accept frame)) log (record { state = k.state; accepted = ap (λ l. l ++ frame ∷ []) k.accepted; delivered = k.delivered; log = k.log });
  asked = rest.asked;
  missed = rest.missed;
}
no_look p event t (Deliver frame ∷ marks) still none = let rest = no_look p event (reader_after_line event t (line.Deliver p frame)) marks refl none in record {
  kept = λ end log k. rest.kept (with_mark end (Deliver frame)) log (record { state = k.state; accepted = k.accepted; delivered = ap (λ l. l ++ frame ∷ []) k.delivered; log = k.log });
  asked = rest.asked;
  missed = rest.missed;
}
no_look p event t (Over ∷ marks) still none = let rest = no_look p event (reader_after_line event t (line.Over p)) marks refl none in record {
  kept = λ end log k. rest.kept end log (record { state = k.state; accepted = k.accepted; delivered = k.delivered; log = k.log });
  asked = rest.asked;
  missed = rest.missed ∙ ap (λ (b : Bool). if b then t.missed ++ accepted_last t.log t.accepted ∷ [] else t.missed) still;
}
no_look p event t (m ∷ marks) still none = let rest = no_look p event (record t { asked = lapsed t.asked; read = false }) marks refl none in record {
  kept = λ end log k. rest.kept (with_mark end m) log (record { state = k.state; accepted = k.accepted; delivered = k.delivered; log = k.log });
  asked = rest.asked;
  missed = rest.missed;
}

plain : (p event : ℕ) (t : RecordReader) (marks : List Mark) → IsPlain marks → Counts t (reader_after_lines event t (map (mark_line p) marks)) (lapsed_by marks t.asked) marks
unfolding reader_after_lines
plain p event t [] is = record { kept = λ end log k. k; asked = refl; missed = refl }
plain p event t (Look count ∷ marks) is = absurd is
plain p event t (Over ∷ marks) is = absurd is
plain p event t (Accept frame ∷ marks) is = let rest = no_look p event (reader_after_line event t (line.Accept p frame)) marks refl is in record {
  kept = λ end log k. rest.kept (with_mark end (Accept frame)) log (record { state = k.state; accepted = ap (λ l. l ++ frame ∷ []) k.accepted; delivered = k.delivered; log = k.log });
  asked = rest.asked;
  missed = rest.missed;
}
plain p event t (Deliver frame ∷ marks) is = let rest = no_look p event (reader_after_line event t (line.Deliver p frame)) marks refl is in record {
  kept = λ end log k. rest.kept (with_mark end (Deliver frame)) log (record { state = k.state; accepted = k.accepted; delivered = ap (λ l. l ++ frame ∷ []) k.delivered; log = k.log });
  asked = rest.asked;
  missed = rest.missed;
}
plain p event t (m ∷ marks) is = let rest = no_look p event (record t { asked = lapsed t.asked; read = false }) marks refl is in record {
  kept = λ end log k. rest.kept (with_mark end m) log (record { state = k.state; accepted = k.accepted; delivered = k.delivered; log = k.log });
  asked = rest.asked;
  missed = rest.missed;
}

-- The lines of a step

abbrev wake_of : RecordReader → Wake
wake_of t = record { asked = t.asked; missed = t.missed }

-- The requests and the missed frames after the step.
abbrev woken : ℕ → RecordReader → Access → List Mark → Wake
woken event t a marks = wake_after event (accepted_last t.log t.accepted) (delivered_next t.log t.delivered) (wake_of t) a marks

-- The lines record what the step leaves of an end with these numbers.
record Steps (event : ℕ) (n : Numbers) (t u : RecordReader) (a : Access) (marks : List Mark) : Type 0 where
  kept : (end : End) → Keeps t end n.log → Keeps u (with_marks (with_access end a) marks) (numbers_after n end a).log
  asked : u.asked ≡ (woken event t a marks).asked
  missed : u.missed ≡ (woken event t a marks).missed

-- The access of a step to a word that is no State.
abbrev IsWord : Access → Type 0
IsWord (access.Read word) = Unit {0}
IsWord (access.Write word written) = Unit {0}
IsWord a = ⊥

access_counts : (p event : ℕ) (t : RecordReader) (a : Access) (v : ℕ) → IsWord a → Counts t (reader_after_lines event t (access_lines p a v)) (request_after_access event t.asked a) []
unfolding reader_after_lines
access_counts p event t (access.Read word) v is = record { kept = λ end log k. record { state = k.state; accepted = k.accepted; delivered = k.delivered; log = k.log }; asked = refl; missed = refl }
access_counts p event t (access.Write word written) v is = record { kept = λ end log k. record { state = k.state; accepted = k.accepted; delivered = k.delivered; log = k.log }; asked = refl; missed = refl }
access_counts p event t a v is = absurd is

access_kept : (t : RecordReader) (end : End) (n : Numbers) (a : Access) → IsWord a → Keeps t end n.log → Keeps t (with_access end a) (numbers_after n end a).log
access_kept t end n (access.Read word) is k = record { state = k.state; accepted = k.accepted; delivered = k.delivered; log = k.log }
access_kept t end n (access.Write word written) is k = record { state = k.state; accepted = k.accepted; delivered = k.delivered; log = k.log }
access_kept t end n a is k = absurd is

plain_woken : (event : ℕ) (t : RecordReader) (a : Access) (marks : List Mark) → IsWord a → IsPlain marks → lapsed_by marks (request_after_access event t.asked a) ≡ (woken event t a marks).asked
plain_woken event t (access.Read word) marks word_is is = sym (plain_asked _ t.asked marks is)
plain_woken event t (access.Write word written) marks word_is is = sym (plain_asked _ (request_after_access event t.asked (access.Write word written)) marks is)
plain_woken event t a marks word_is is = absurd word_is

counts_steps : (event : ℕ) (n : Numbers) (t u : RecordReader) (asked : DoorbellRequest) (a : Access) (marks : List Mark) → IsWord a → IsPlain marks → asked ≡ (woken event t a marks).asked → Counts t u asked marks → Steps event n t u a marks
counts_steps event n t u asked a marks word_is is same c = record {
  kept = λ end k. c.kept (with_access end a) (numbers_after n end a).log (access_kept t end n a word_is k);
  asked = c.asked ∙ same;
  missed = c.missed ∙ sym (plain_wake_missed event (accepted_last t.log t.accepted) (delivered_next t.log t.delivered) (wake_of t) a marks is);
}

counts_both : (t s u : RecordReader) (first then' : DoorbellRequest) (marks : List Mark) → Counts t s first [] → Counts s u then' marks → Counts t u then' marks
counts_both t s u first then' marks c d = record { kept = λ end log k. d.kept end log (c.kept end log k); asked = d.asked; missed = d.missed ∙ c.missed }

-- The access of a quiet call is a read, its first one.
quiet_is : (first : Bool) (event : ℕ) (t : RecordReader) (a : Access) (marks : List Mark) → is_quiet first a marks ≡ true → (first ≡ true) × (request_after_access event t.asked a ≡ t.asked)
quiet_is true event t (access.Read word) marks is = (refl, refl)
quiet_is false event t (access.Read word) marks is = absurd (clash is)
quiet_is first event t _ marks is = absurd (clash is)

plain_step : (p event : ℕ) (first : Bool) (n : Numbers) (t : RecordReader) (a : Access) (v : ℕ) (marks : List Mark) → IsWord a → IsPlain marks → (first ≡ true → t.asked ≢ Written) → Steps event n t (reader_after_lines event t (lines_of p first a v marks)) a marks
plain_step p event first n t a v marks word_is is free = by (is_quiet first a marks) refl
  where
    all : List Line
    all = access_lines p a v ++ map (mark_line p) marks

    same : lapsed_by marks (request_after_access event t.asked a) ≡ (woken event t a marks).asked
    same = plain_woken event t a marks word_is is

    by : (b : Bool) → is_quiet first a marks ≡ b → Steps event n t (reader_after_lines event t (lines_of p first a v marks)) a marks
    by true quiet = let recorded : reader_after_lines event t (lines_of p first a v marks) ≡ t = ap (λ (b : Bool). reader_after_lines event t (if b then [] else all)) quiet ∙ reports_none event t in
        let q = quiet_is first event t a marks quiet in
        subst (λ (u : RecordReader). Steps event n t u a marks) (sym recorded) (counts_steps event n t t t.asked a marks word_is is (sym (lapsed_by_free marks t.asked (free q.0)) ∙ (ap (lapsed_by marks) (sym q.1) ∙ same)) (quiet_counts first t a marks quiet))
    by false quiet = let s = reader_after_lines event t (access_lines p a v) in let c = access_counts p event t a v word_is in
        let recorded : reader_after_lines event t (lines_of p first a v marks) ≡ reader_after_lines event s (map (mark_line p) marks) = ap (λ (b : Bool). reader_after_lines event t (if b then [] else all)) quiet ∙ reports_both event t (access_lines p a v) (map (mark_line p) marks) in
        subst (λ (u : RecordReader). Steps event n t u a marks) (sym recorded) (counts_steps event n t _ _ a marks word_is is (ap (lapsed_by marks) c.asked ∙ same) (counts_both t s _ _ _ marks c (plain p event s marks is)))

-- The place of a step

abbrev PlaceAsks : DoorbellRequest → Place → Type 0
PlaceAsks a place = AsksAt (λ taken. Unit {0}) a place

-- The same in a turn, which may be the first of a call.
abbrev TurnAsks : (first : Bool) → DoorbellRequest → Place → Type 0
TurnAsks first a place = (first ≡ true → a ≢ Written) × PlaceAsks a place

turn_asks : (config : EndConfig) (r : Runner) → PlaceAsks r.wake.asked r.place → TurnAsks (is_first r) r.wake.asked (place_in config r)
turn_asks config r h = by (is_open r.place) refl
  where
    by : (b : Bool) → is_open r.place ≡ b → TurnAsks (is_first r) r.wake.asked (place_in config r)
    by true is = let none : place_in config r ≡ r.place = ap (λ (b : Bool). place_for config r.end r.place (call_chosen (if b then None else Some (choice_of r.end.handshake.phase r.auto.round r.auto.frames r.auto.delivered r.auto.expected)))) is in
        (λ e. absurd (clash (sym (ap not is) ∙ e)), subst (PlaceAsks r.wake.asked) (sym none) h)
    by false is = let ne = subst (PlaceAsks r.wake.asked) (shut_place r.place is) h in (λ e. ne, free_asks (λ taken. Unit {0}) r.wake.asked (place_in config r) ne)

-- The lines of a look

look_free : (next : FrameNumber) (a : DoorbellRequest) → a ≢ Written → request_after_marks next a (Look 0 ∷ mark.Done ∷ []) ≡ a
look_free next Nowhere ne = refl
look_free next Written ne = absurd (ne refl)
look_free next (At frame) ne = refl

-- The marks of a look: the lines record the marks, or the call is quiet.
quiet_look : (p event : ℕ) (n : Numbers) (t : RecordReader) (word v : ℕ) → t.asked ≢ Written → Steps event n t (reader_after_lines event t (lines_of p true (access.Read word) v (Look 0 ∷ mark.Done ∷ []))) (access.Read word) (Look 0 ∷ mark.Done ∷ [])
unfolding reader_after_lines
quiet_look p event n t word v ne = record { kept = λ end k. record { state = k.state; accepted = k.accepted; delivered = k.delivered; log = k.log }; asked = sym (look_free (delivered_next t.log t.delivered) t.asked ne); missed = refl }

armed_look : (p event : ℕ) (n : Numbers) (t : RecordReader) (word v : ℕ) → Steps event n t (reader_after_lines event t (lines_of p false (access.Read word) v (Look 0 ∷ mark.Done ∷ []))) (access.Read word) (Look 0 ∷ mark.Done ∷ [])
unfolding reader_after_lines
armed_look p event n t word v = record { kept = λ end k. record { state = k.state; accepted = k.accepted; delivered = k.delivered; log = k.log }; asked = refl; missed = refl }

one_look : (p event : ℕ) (first : Bool) (n : Numbers) (t : RecordReader) (word v d : ℕ) → Steps event n t (reader_after_lines event t (lines_of p first (access.Read word) v (Look d ∷ []))) (access.Read word) (Look d ∷ [])
unfolding reader_after_lines
one_look p event true n t word v zero = record { kept = λ end k. record { state = k.state; accepted = k.accepted; delivered = k.delivered; log = k.log }; asked = refl; missed = refl }
one_look p event true n t word v (suc d) = record { kept = λ end k. record { state = k.state; accepted = k.accepted; delivered = k.delivered; log = k.log }; asked = refl; missed = refl }
one_look p event false n t word v d = record { kept = λ end k. record { state = k.state; accepted = k.accepted; delivered = k.delivered; log = k.log }; asked = refl; missed = refl }

look_step : (p event : ℕ) (first : Bool) (n : Numbers) (t : RecordReader) (word v d value : ℕ) (last within : Bool) → (first ≡ true → t.asked ≢ Written) →
    Steps event n t (reader_after_lines event t (lines_of p first (access.Read word) v (if within then look_marks last d else refusal field_name.AvailIndex value))) (access.Read word) (if within then look_marks last d else refusal field_name.AvailIndex value)
look_step p event true n t word v zero value true true free = quiet_look p event n t word v (free refl)
look_step p event false n t word v zero value true true free = armed_look p event n t word v
look_step p event first n t word v zero value false true free = one_look p event first n t word v 0
look_step p event first n t word v (suc d) value last true free = subst (λ (b : Bool). Steps event n t (reader_after_lines event t (lines_of p first (access.Read word) v (if b then empty_marks last else Look (suc d) ∷ []))) (access.Read word) (if b then empty_marks last else Look (suc d) ∷ [])) (sym (more_than d)) (one_look p event first n t word v (suc d))
look_step p event first n t word v d value last false free = plain_step p event first n t (access.Read word) v (refusal field_name.AvailIndex value) tt tt free

-- The lines of the read of an event.

event_step : (p event : ℕ) (first b : Bool) (n : Numbers) (t : RecordReader) (word v : ℕ) → Steps event n t (reader_after_lines event t (lines_of p first (access.Read word) v (if b then [] else Over ∷ []))) (access.Read word) (if b then [] else Over ∷ [])
unfolding reader_after_lines
event_step p event true true n t word v = record { kept = λ end k. record { state = k.state; accepted = k.accepted; delivered = k.delivered; log = k.log }; asked = refl; missed = refl }
event_step p event false true n t word v = record { kept = λ end k. record { state = k.state; accepted = k.accepted; delivered = k.delivered; log = k.log }; asked = refl; missed = refl }
event_step p event true false n t word v = record { kept = λ end k. record { state = k.state; accepted = k.accepted; delivered = k.delivered; log = k.log }; asked = refl; missed = refl }
event_step p event false false n t word v = record { kept = λ end k. record { state = k.state; accepted = k.accepted; delivered = k.delivered; log = k.log }; asked = refl; missed = refl }

-- The lines of a State step.

-- The other's sessions matter to one with 3 alone.
others_free : (log one other : Log) (side : Side) (state : ℕ) → (state == 3) ≡ false → log_after log one side (Wrote state) ≡ log_after log other side (Wrote state)
others_free log one other side state never = let carried : (if state == 3 then one.opened else log.carried) ≡ (if state == 3 then other.opened else log.carried) =
    ap (λ (b : Bool). if b then one.opened else log.carried) never ∙ sym (ap (λ (b : Bool). if b then other.opened else log.carried) never) in
    λ i. record (log_after log one side (Wrote state)) { carried = carried i }

state_step : (p event : ℕ) (first : Bool) (n : Numbers) (t : RecordReader) (state v : ℕ) → (state == 3) ≡ false → Steps event n t (reader_after_lines event t (lines_of p first (access.State state) v (Over ∷ []))) (access.State state) (Over ∷ [])
unfolding reader_after_lines
state_step p event first n t state v never = record {
  kept = λ end k. record {
    state = refl;
    accepted = ap (λ (l : List (List ℕ)). if state == 2 then [] else l) k.accepted;
    delivered = ap (λ (l : List (List ℕ)). if state == 2 then [] else l) k.delivered;
    log = (λ i. log_after (k.log i) no_sessions (side_kept k i) (Wrote state)) ∙ others_free n.log no_sessions (record no_sessions { opened = number_of n.loaded }) (own_side end) state never;
  };
  asked = refl;
  missed = refl;
}

-- The State step with 3 is recorded with the number that was loaded.
enter_step : (p event opened other : ℕ) (n : Numbers) (t : RecordReader) → n.loaded ≡ Some other → Steps event n t (reader_after_lines event t (line.State p 3 ∷ line.Session p opened other ∷ line.Over p ∷ [])) (access.State 3) (Over ∷ [])
unfolding reader_after_lines
enter_step p event opened other n t loaded = record {
  kept = λ end k. record {
    state = refl;
    accepted = k.accepted;
    delivered = k.delivered;
    log = λ i. with_carried (log_after (k.log i) no_sessions (side_kept k i) (Wrote 3)) (number_of (sym loaded i));
  };
  asked = refl;
  missed = refl;
}

-- The steps that touch no word.
still_step : (p event : ℕ) (first : Bool) (n : Numbers) (t : RecordReader) (config : EndConfig) (v value : ℕ) (place : Place) → touches (access_at config place) ≡ false → PlaceAsks t.asked place → Steps event n t (reader_after_lines event t (lines_of p first (access_at config place) v (marks_at config place value))) (access_at config place) (marks_at config place value)
unfolding reader_after_lines
still_step p event first n t config v value Closed still free = record { kept = λ end k. record { state = k.state; accepted = k.accepted; delivered = k.delivered; log = k.log }; asked = refl; missed = refl }
still_step p event first n t config v value NotInRun still free = record { kept = λ end k. record { state = k.state; accepted = k.accepted; delivered = k.delivered; log = k.log }; asked = lapsed_free t.asked free; missed = refl }
still_step p event first n t config v value RingingOffer still free = record { kept = λ end k. record { state = k.state; accepted = k.accepted; delivered = k.delivered; log = k.log }; asked = lapsed_free t.asked free; missed = refl }
still_step p event first n t config v value RingingPoll still free = record { kept = λ end k. record { state = k.state; accepted = k.accepted; delivered = k.delivered; log = k.log }; asked = lapsed_free t.asked free; missed = refl }
still_step p event first n t config v value place still free = absurd (clash (sym still))

-- A step of a turn that is no State step with 3.
recorded_step : (p event : ℕ) (config : EndConfig) (first : Bool) (n : Numbers) (t : RecordReader) (v value : ℕ) (place : Place) → TurnAsks first t.asked place → ((state : ℕ) → access_at config place ≡ access.State state → (state == 3) ≡ false) →
    Steps event n t (reader_after_lines event t (lines_of p first (access_at config place) v (marks_at config place value))) (access_at config place) (marks_at config place value)
recorded_step p event config first n t v value (ReadingAvailIndex taken last) asks never = look_step p event first n t _ v (published_by taken value) (high_half value) last (is_avail_index config.sizes (taken % 65536) (high_half value)) asks.0
recorded_step p event config first n t v value (ReadingAvailEvent number) asks never = event_step p event first (wants_doorbell (low_half value) number) n t _ v
recorded_step p event config first n t v value (WritingState state) asks never = state_step p event first n t state v (never state refl)
recorded_step p event config first n t v value Refusing asks never = state_step p event first n t 0 v refl
recorded_step p event config first n t v value Closed asks never = still_step p event first n t config v value Closed refl asks.1
recorded_step p event config first n t v value NotInRun asks never = still_step p event first n t config v value NotInRun refl asks.1
recorded_step p event config first n t v value RingingOffer asks never = still_step p event first n t config v value RingingOffer refl asks.1
recorded_step p event config first n t v value RingingPoll asks never = still_step p event first n t config v value RingingPoll refl asks.1
recorded_step p event config first n t v value place asks never = plain_step p event first n t (access_at config place) v (marks_at config place value) tt (plain_marks config place value refl (λ e. cc)) asks.0

-- The lines of a doorbell that takes two turns.

cleared_step : (p event : ℕ) (config : EndConfig) (routes : List Route) (n : Numbers) (t : RecordReader) (v value : ℕ) (place : Place) → PlaceAsks t.asked place → is_guarded (doorbell_path_in routes (access_at config place)) ≡ true →
    Steps event n t (reader_after_lines event t (access_lines p (access_at config place) v ++ map (mark_line p) (marks_at config place value))) (access_at config place) (marks_at config place value)
unfolding reader_after_lines
cleared_step p event config routes n t v value RingingOffer free guarded = record { kept = λ end k. record { state = k.state; accepted = k.accepted; delivered = k.delivered; log = k.log }; asked = lapsed_free t.asked free; missed = refl }
cleared_step p event config routes n t v value RingingPoll free guarded = record { kept = λ end k. record { state = k.state; accepted = k.accepted; delivered = k.delivered; log = k.log }; asked = lapsed_free t.asked free; missed = refl }
cleared_step p event config routes n t v value place free guarded = absurd (clash guarded)

rung_step : (p event : ℕ) (config : EndConfig) (routes : List Route) (n : Numbers) (t : RecordReader) (value : ℕ) (place : Place) → t.read ≡ false → PlaceAsks t.asked place → is_guarded (doorbell_path_in routes (access_at config place)) ≡ true →
    Steps event n t (reader_after_lines event t (map (mark_line p) (marks_at config place value))) (access_at config place) (marks_at config place value)
unfolding reader_after_lines
rung_step p event config routes n t value RingingOffer still free guarded = record {
  kept = λ end k. record { state = k.state; accepted = k.accepted; delivered = k.delivered; log = k.log };
  asked = lapsed_free t.asked free;
  missed = ap (λ (b : Bool). if b then t.missed ++ accepted_last t.log t.accepted ∷ [] else t.missed) still;
}
rung_step p event config routes n t value RingingPoll still free guarded = record { kept = λ end k. record { state = k.state; accepted = k.accepted; delivered = k.delivered; log = k.log }; asked = lapsed_free t.asked free; missed = refl }
rung_step p event config routes n t value place still free guarded = absurd (clash guarded)

held_counts : (p event : ℕ) (config : EndConfig) (routes : List Route) (t : RecordReader) (v : ℕ) (place : Place) → is_guarded (doorbell_path_in routes (access_at config place)) ≡ true →
    Counts t (reader_after_lines event t (access_lines p (access_at config place) v)) t.asked [] × ((reader_after_lines event t (access_lines p (access_at config place) v)).read ≡ false)
unfolding reader_after_lines
held_counts p event config routes t v RingingOffer guarded = (record { kept = λ end log k. record { state = k.state; accepted = k.accepted; delivered = k.delivered; log = k.log }; asked = refl; missed = refl }, refl)
held_counts p event config routes t v RingingPoll guarded = (record { kept = λ end log k. record { state = k.state; accepted = k.accepted; delivered = k.delivered; log = k.log }; asked = refl; missed = refl }, refl)
held_counts p event config routes t v place guarded = absurd (clash guarded)

-- And those of a look.
bit_counts : (p event bit found : ℕ) (t : RecordReader) → Counts t (reader_after_lines event t (interrupt_line p bit found)) t.asked [] × (t.read ≡ false → (reader_after_lines event t (interrupt_line p bit found)).read ≡ false)
unfolding reader_after_lines
bit_counts p event bit found t = by (bit_at found bit == 0)
  where
    by : (b : Bool) → Counts t (reader_after_lines event t (if b then [] else line.Interrupt p bit ∷ [])) t.asked [] × (t.read ≡ false → (reader_after_lines event t (if b then [] else line.Interrupt p bit ∷ [])).read ≡ false)
    by true = (record { kept = λ end log k. k; asked = refl; missed = refl }, λ still. still)
    by false = (record { kept = λ end log k. record { state = k.state; accepted = k.accepted; delivered = k.delivered; log = k.log }; asked = refl; missed = refl }, λ still. refl)

found_counts : (n p event found : ℕ) (t : RecordReader) → Counts t (reader_after_lines event t (interrupt_lines n p found)) t.asked [] × (t.read ≡ false → (reader_after_lines event t (interrupt_lines n p found)).read ≡ false)
unfolding interrupt_lines
found_counts zero p event found t = let same = reports_none event t in
    (subst (λ (u : RecordReader). Counts t u t.asked []) (sym same) (record { kept = λ end log k. k; asked = refl; missed = refl }), λ still. ap (λ (u : RecordReader). u.read) same ∙ still)
found_counts (suc n) p event found t = let s = reader_after_lines event t (interrupt_lines n p found) in let first = found_counts n p event found t in let then' = bit_counts p event n found s in let same = reports_both event t (interrupt_lines n p found) (interrupt_line p n found) in
    (subst (λ (u : RecordReader). Counts t u t.asked []) (sym same) (subst (λ (a : DoorbellRequest). Counts t (reader_after_lines event s (interrupt_line p n found)) a []) first.0.asked (counts_both t s (reader_after_lines event s (interrupt_line p n found)) t.asked s.asked [] first.0 then'.0)), λ still. ap (λ (u : RecordReader). u.read) same ∙ then'.1 (first.1 still))

-- The lines of a runner

pub record StateMatches (r : Runner) (t : RecordReader) : Type 0 where
  pub side : side_in t ≡ own_side r.end
  pub log : t.log ≡ r.numbers.log
  pub asked : t.asked ≡ r.wake.asked
  pub missed : t.missed ≡ r.wake.missed
  pub quiet : r.ringing ≡ true → t.read ≡ false
  pub place : PlaceAsks r.wake.asked r.place

pub recorded_is : (r : Runner) (t : RecordReader) → StateMatches r t → ReaderMatches (derived_state_of r) t
recorded_is r t recorded = record { side = recorded.side; log = recorded.log; asked = recorded.asked; missed = recorded.missed }

keeps : (r : Runner) (t : RecordReader) → StateMatches r t → Keeps t r.end r.numbers.log
keeps r t recorded = record {
  state = ap (λ (s : Side). s.state) recorded.side;
  accepted = ap (λ (s : Side). s.accepted) recorded.side;
  delivered = ap (λ (s : Side). s.delivered) recorded.side;
  log = recorded.log;
}

pub recorded_first : (frames : List (List ℕ)) (expected : ℕ) (spans : List ℕ) → StateMatches (initial_runner frames expected spans) initial_reader
recorded_first frames expected spans = record { side = refl; log = refl; asked = refl; missed = refl; quiet = λ e. absurd (clash e); place = λ e. cc }

pub looked_recorded : (p event found : ℕ) (r : Runner) (t : RecordReader) → StateMatches r t → StateMatches (looked_on r found) (reader_after_lines event t (lines_in p (Looks found)))
looked_recorded p event found r t recorded = let c = found_counts 64 p event found t in let one = c.0 in let k = one.kept r.end r.numbers.log (keeps r t recorded) in
    record { side = side_kept k; log = k.log; asked = one.asked ∙ recorded.asked; missed = one.missed ∙ recorded.missed; quiet = λ e. c.1 (recorded.quiet e); place = recorded.place }

-- A turn at a session word records no line.
pub met_recorded : (p event number : ℕ) (word : SessionWord) (r : Runner) (t : RecordReader) → StateMatches r t → StateMatches (met_on word r number) (reader_after_lines event t (lines_in p (turn_met word number)))
unfolding reader_after_lines
met_recorded p event number Own r t recorded = record { side = recorded.side; log = recorded.log; asked = recorded.asked; missed = recorded.missed; quiet = recorded.quiet; place = recorded.place }
met_recorded p event number Others r t recorded = record { side = recorded.side; log = recorded.log; asked = recorded.asked; missed = recorded.missed; quiet = recorded.quiet; place = recorded.place }

-- The line of a reset.
pub restarted_recorded : (p event : ℕ) (r : Runner) (t : RecordReader) → StateMatches r t → StateMatches (restarted_on r) (reader_after_lines event t (lines_in p Restarts))
unfolding reader_after_lines
restarted_recorded p event r t recorded = record {
  side = λ i. record initial_side { state = 0; accepted = (recorded.side i).accepted; delivered = (recorded.side i).delivered };
  log = λ i. log_after (recorded.log i) no_sessions (recorded.side i) WasReset;
  asked = ap lapsed recorded.asked;
  missed = recorded.missed;
  quiet = λ e. absurd (clash e);
  place = lapsed_not r.wake.asked;
}

-- After a step.
place_after : (config : EndConfig) (r : Runner) (value : ℕ) → PlaceAsks r.wake.asked (place_in config r) →
    PlaceAsks (wake_on config r.end r.numbers.log r.wake (access_at config (place_in config r)) (marks_at config (place_in config r) value)).asked (next_place config (place_in config r) value)
place_after config r value h = asks_on config (λ taken. Unit {0}) (event_word config) (accepted_last r.numbers.log r.end.accepted) (delivered_next r.numbers.log r.end.delivered) value r.wake (λ taken. Unit {0}) (place_in config r) (λ taken at. tt) h

module _ (routes : List Route) (config : EndConfig) (r : Runner) (done : Done) (t : RecordReader) (recorded : StateMatches r t) (is : IsDone r.ringing (is_guarded (doorbell_path_in routes (access_at config (place_in config r)))) done) (has : HasMet r) (due : due_word r.place r.met ≡ None) where
  abbrev event : ℕ
  event = event_word config

  wake_same : wake_of t ≡ r.wake
  wake_same = λ i. record { asked = recorded.asked i; missed = recorded.missed i }

  by_steps : Steps event r.numbers t (reader_after_lines event t (lines_on config r done)) (access_at config (place_in config r)) (marks_at config (place_in config r) (value_done done)) → StateMatches (stepped_on routes config r done) (reader_after_lines event t (lines_on config r done))
  by_steps s = let k = s.kept r.end (keeps r t recorded) in
      let same : woken event t (access_at config (place_in config r)) (marks_at config (place_in config r) (value_done done)) ≡ woken_on config r done =
      λ i. wake_after event (accepted_last (recorded.log i) (recorded.side i).accepted) (delivered_next (recorded.log i) (recorded.side i).delivered) (wake_same i) (access_at config (place_in config r)) (marks_at config (place_in config r) (value_done done)) in
      record {
        side = side_kept k;
        log = k.log;
        asked = s.asked ∙ ap (λ (w : Wake). w.asked) same;
        missed = s.missed ∙ ap (λ (w : Wake). w.missed) same;
        quiet = λ e. absurd (clash e);
        place = place_after config r (value_done done) (turn_asks config r recorded.place).1;
      }

  asks : TurnAsks (is_first r) t.asked (place_in config r)
  asks = subst (λ (a : DoorbellRequest). TurnAsks (is_first r) a (place_in config r)) (sym recorded.asked) (turn_asks config r recorded.place)

  -- A step with its access, which is the State step with 3 or another one.
  enters_recorded : (value : ℕ) → IsEntering config r value → Steps event r.numbers t (reader_after_lines event t (lines_on config r (Stepped value))) (access_at config (place_in config r)) (marks_at config (place_in config r) value)
  enters_recorded value e = let after = λ (turn : Turn). reader_after_lines event t (lines_in config.me turn) in
      subst (λ (turn : Turn). Steps event r.numbers t (after turn) (access_at config (place_in config r)) (marks_at config (place_in config r) value)) (sym e.turn)
      (subst (λ (p : Place). Steps event r.numbers t (after (Enters (step_at config p value) r.numbers.log.opened e.other)) (access_at config p) (marks_at config p value)) (sym e.place) (enter_step config.me event r.numbers.log.opened e.other r.numbers t e.loaded))

  makes_recorded : (value : ℕ) → IsMaking config r value → Steps event r.numbers t (reader_after_lines event t (lines_on config r (Stepped value))) (access_at config (place_in config r)) (marks_at config (place_in config r) value)
  makes_recorded value m = subst (λ (turn : Turn). Steps event r.numbers t (reader_after_lines event t (lines_in config.me turn)) (access_at config (place_in config r)) (marks_at config (place_in config r) value)) (sym m.turn)
      (recorded_step config.me event config (is_first r) r.numbers t (value_given (access_at config (place_in config r)) value) value (place_in config r) asks m.never)

  stepped_recorded : awaits_ring done ≡ false → StateMatches (stepped_on routes config r done) (reader_after_lines event t (lines_on config r done))
  stepped_recorded goes = by_steps (by done goes is)
    where
      by : (d : Done) → awaits_ring d ≡ false → IsDone r.ringing (is_guarded (doorbell_path_in routes (access_at config (place_in config r)))) d → Steps event r.numbers t (reader_after_lines event t (lines_on config r d)) (access_at config (place_in config r)) (marks_at config (place_in config r) (value_done d))
      by (Stepped value) free i = ⊎_elim (enters_recorded value) (makes_recorded value) (stepped_kind config r value has due)
      by (Cleared found) free i = subst (λ (b : Bool). Steps event r.numbers t (reader_after_lines event t (access_lines config.me (access_at config (place_in config r)) (value_given (access_at config (place_in config r)) 0) ++ map (mark_line config.me) (if b then [] else marks_at config (place_in config r) 0))) (access_at config (place_in config r)) (marks_at config (place_in config r) 0)) (sym free)
          (cleared_step config.me event config routes r.numbers t (value_given (access_at config (place_in config r)) 0) 0 (place_in config r) asks.1 i.1)
      by Rung free i = rung_step config.me event config routes r.numbers t 0 (place_in config r) (recorded.quiet i.0) asks.1 i.1

  held_recorded : awaits_ring done ≡ true → StateMatches (held_on routes config r done) (reader_after_lines event t (lines_on config r done))
  held_recorded held = let line_is = held_line config.me (is_first r) r.numbers.log.opened r.met (step_at config (place_in config r) (value_done done)) done held in
      subst (λ ls. StateMatches (held_on routes config r done) (reader_after_lines event t ls)) (sym line_is) (
      let c = held_counts config.me event config routes t (value_given (access_at config (place_in config r)) (value_done done)) (place_in config r) (held_guards r.ringing (is_guarded (doorbell_path_in routes (access_at config (place_in config r)))) done is held) in let one = c.0 in
      let k = one.kept r.end r.numbers.log (keeps r t recorded) in
      record { side = side_kept k; log = k.log; asked = one.asked ∙ recorded.asked; missed = one.missed ∙ recorded.missed; quiet = λ e. c.1; place = recorded.place })

  pub turned_recorded : StateMatches (turned routes config r done) (reader_after_lines event t (lines_on config r done))
  turned_recorded = by (awaits_ring done) refl
    where
      by : (b : Bool) → awaits_ring done ≡ b → StateMatches (turned routes config r done) (reader_after_lines event t (lines_on config r done))
      by true held = subst (λ (x : Runner). StateMatches x (reader_after_lines event t (lines_on config r done))) (sym (turned_held routes config r done held)) (held_recorded held)
      by false goes = subst (λ (x : Runner). StateMatches x (reader_after_lines event t (lines_on config r done))) (sym (turned_stepped routes config r done goes)) (stepped_recorded goes)
