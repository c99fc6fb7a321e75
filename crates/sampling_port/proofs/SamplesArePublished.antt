-- The messages that samples of an honest writer get, through the whole history.
use Rattle.std.proofs.Common.{◌≡◌, ◌≢◌, ℕ, zero, suc, ◌+◌, ◌/◌, ◌%◌, ◌<◌, ◌≤◌, Bool, true, false, inl, inr, List, [], ◌∷◌, ◌++◌, length, replicate, refl, sym, ◌∙◌, ap, subst, arith, append_assoc}
use Rattle.std.specs.Prelude.{◌==◌, ◌&&◌, nat_lt, nat_le, not, if◌then◌else◌, Option, Some, None, reverse, slice_get, slice_index, sum_by}
use Rattle.std.specs.List.{AllByRecursion, flat_map}
use Rattle.std.proofs.lemmas.Bool.{eqb-true, eqb-false, ne_eqb}
use Rattle.std.proofs.lemmas.Bool.Decides.{nat_tests}
use Rattle.std.proofs.lemmas.Grind.{common_steps}
use Rattle.std.proofs.lemmas.List.{append-nil, reverse-append, reverse-reverse, length-reverse}
use Rattle.std.proofs.lemmas.List.Concat.{flat_map-cons}
use Rattle.std.proofs.lemmas.List.Elements.{recursion_from_All}
use Rattle.std.proofs.lemmas.List.Sums.{sum_by-cons, sum_by-append}
use Rattle.section_map.specs.Geometry.{section_start}
use Rattle.section_map.specs.MayWrite.{InSection, MayWrite}
use Rattle.split_ring.specs.declared.steps.Access.TheVariants as access
use Rattle.call_grammar.specs.Words.{words_for, frame_word}
use Rattle.port_text.specs.declared.limits.TheConstants.{MOST_TURNS}
use Rattle.port_text.specs.declared.acts.Act.{Act}
use Rattle.port_text.specs.declared.acts.Act.TheVariants as act
use Rattle.port_text.specs.Scenario.{World, IsWorld, IsAllowed, is_honest}
use Rattle.sampling_port.specs.declared.place.Place.{Place}
use Rattle.sampling_port.specs.declared.place.Place.TheVariants as place
use Rattle.sampling_port.specs.Layout.{length_place, data_place}
use Rattle.sampling_port.specs.Marks.{Publish, Got, Nothing, Again, Refuse, marked}
use Rattle.sampling_port.specs.Trees.{port_step}
use Rattle.sampling_port.specs.Views.{PortView, IsPlace, is_open, is_busy, from_at, access_at, note_at, port_after, own, other_start, writing_place}
use Rattle.sampling_port.specs.Laws.{step_of_port}
use Rattle.sampling_port.specs.Schedule.{PortCall, Event, CallQueued, TurnTaken, Poked, event_peer, events_of, schedule}
use Rattle.sampling_port.specs.Schedule as call
use Rattle.sampling_port.specs.EventRecords.{Line, Read, Wrote, Denied, Idle, Marked, access_lines, mark_lines, lines_by}
use Rattle.sampling_port.specs.Lawful.{IsLawful, HasOneHistory}
use Rattle.sampling_port.specs.History.{PeerState, HistoryState, met, met_by, opened, opened_by, may_write, peer_state_in, after_event, run, initial_state, history_state_after, HistoryIsLawful}
use Rattle.sampling_port.specs.HistoryLaws.{message_in, messages_of, is_of, is_read_of, publishes, published_by, GotIsPublished, LooksCountPublishes, ZeroIsNothing, NothingIsUnpublished, AgainIsLater, HonestIsNotRefused}
use Rattle.sampling_port.specs.Simulator.{IsPermittedEvent}
use Rattle.sampling_port.proofs.RecordedLines.{may_of}
use Rattle.call_grammar.proofs.BytesOfWords.{IsByte}
use Rattle.sampling_port.proofs.Buffers.{head_of, length_at, data_at, IsMessage, Opened, Writer, Same, length_in, data_in, same_beside, opened_same, writer_same, wrote_length, wrote_word}
use Rattle.sampling_port.proofs.ReaderInSample.{Reader, At, Fact, Facts, facts_before, Before, reader_past}
use Rattle.sampling_port.proofs.TurnFacts.{hand_at, hand_messages, not_wrote, Stands, Stepped, sample_stepped, write_stepped, sequence_stepped}
use Rattle.sampling_port.proofs.OneMoreEvent.{opened_kept, fresh_kept, all_there, few_events}
use Rattle.sampling_port.proofs.Exists.{AreKept, kept_one}
use Rattle.sampling_port.proofs.NumbersNeverFall.{step_is, past_is, split_past}

-- A step of the open call, by its place

step_at : (world : World) (q me : ℕ) (messages : List (List ℕ)) (past : List Line) (port : PortView) (done : List (List ℕ)) (p : Place) → IsWorld world → q < world.geometry.peers → Before world q messages past done → Stands world q me port past done →
    port.place ≡ p → is_open p ≡ true → IsPlace port p →
    Stepped world q me messages past (mark_lines me (marked (from_at p) port.hand (note_at port p (met past (access_at port p)))) ++ (access_lines me (access_at port p) (met past (access_at port p)) ++ past)) port (port_after port p (met past (access_at port p))) done
step_at world q me messages past port done place.Closed is there before refines at opens place_is = absurd cc
step_at world q me messages past port done place.WritingLength is there before refines at opens place_is =
    let word = own port + length_place port.most (port.published + 1) in
    let word_is : word ≡ length_at world me (port.published + 1) = rw (refines.shape, refines.me_is, refines.most) refl in
    write_stepped world q me messages past port done word (length port.hand) 0 (words_for (length port.hand)) is before refines (rw word_is (length_in world me (port.published + 1) is)) (ap (hand_at port) at)
    (λ same. subst (λ (w : ℕ). Writer world q (Wrote me w (length port.hand) ∷ past) (record port { place = writing_place 0 (words_for (length port.hand)) }) done) (sym word_is)
    (subst (λ (k : ℕ). Writer world q (Wrote k (length_at world k (port.published + 1)) (length port.hand) ∷ past) (record port { place = writing_place 0 (words_for (length port.hand)) }) done) (sym same)
    (wrote_length world q past port done is (place_is.0, subst (λ (m : ℕ). length port.hand ≤ m) refines.most refines.port_is.hand) (refines.writer same))))
step_at world q me messages past port done (place.WritingWord k more) is there before refines at opens place_is =
    let word = own port + data_place port.most (port.published + 1) + k in
    let word_is : word ≡ data_at world me (port.published + 1) k = rw (refines.shape, refines.me_is, refines.most) refl in
    let fits : length port.hand ≤ world.most = subst (λ (m : ℕ). length port.hand ≤ m) refines.most refines.port_is.hand in
    write_stepped world q me messages past port done word (frame_word port.hand k) (k + 1) more is before refines (rw word_is (data_in world me (port.published + 1) k is (few k more (length port.hand) world.most place_is.0 fits is.size.0))) (ap (hand_at port) at)
    (λ same. subst (λ (w : ℕ). Writer world q (Wrote me w (frame_word port.hand k) ∷ past) (record port { place = writing_place (k + 1) more }) done) (sym word_is)
    (subst (λ (i : ℕ). Writer world q (Wrote i (data_at world i (port.published + 1) k) (frame_word port.hand k) ∷ past) (record port { place = writing_place (k + 1) more }) done) (sym same)
    (wrote_word world q k more past port done is fits at place_is.0 (refines.writer same))))
  where
    few : (k more bytes m : ℕ) → k + more + 1 ≡ words_for bytes → bytes ≤ m → m % 4 ≡ 0 → k < m / 4
    few k more bytes m all fits four = omega arith
step_at world q me messages past port done place.WritingSequence is there before refines at opens place_is =
    let word_is : own port ≡ head_of world me = rw (refines.shape, refines.me_is) refl in
    subst (λ (w : ℕ). Stepped world q me messages past (Marked me (Publish (port.published + 1)) ∷ Wrote me w (port.published + 1) ∷ past) port (port_after port place.WritingSequence 0) done) (sym word_is)
    (sequence_stepped world q me messages past port done is before refines at _ refl)
step_at world q me messages past port done (place.AtSequence from) is there before refines at opens place_is =
    sample_stepped world q me messages past port done (place.AtSequence from) (other_start port from) _ is there before refines at place_is refl refl
step_at world q me messages past port done (place.AtLength from sequence) is there before refines at opens place_is =
    sample_stepped world q me messages past port done (place.AtLength from sequence) (other_start port from + length_place port.most sequence) _ is there before refines at place_is refl refl
step_at world q me messages past port done (place.AtWord from sequence bytes k more) is there before refines at opens place_is =
    sample_stepped world q me messages past port done (place.AtWord from sequence bytes k more) (other_start port from + data_place port.most sequence + k) _ is there before refines at place_is refl refl
step_at world q me messages past port done (place.AtSecond from sequence) is there before refines at opens place_is =
    sample_stepped world q me messages past port done (place.AtSecond from sequence) (other_start port from) _ is there before refines at place_is refl refl

-- A turn without a step

at_quiet : (world : World) (q p : ℕ) (past : List Line) (port : PortView) (done : List (List ℕ)) (at : Place) → is_open at ≡ false → At world q p past port done at
at_quiet world q p past port done (place.AtLength from sequence) shut = absurd cc
at_quiet world q p past port done (place.AtWord from sequence bytes k more) shut = absurd cc
at_quiet world q p past port done (place.AtSecond from sequence) shut = absurd cc
at_quiet world q p past port done _ shut = tt

opened_quiet : (world : World) (q : ℕ) (past : List Line) (port : PortView) (at : Place) → is_open at ≡ false → Opened world q past port at
opened_quiet world q past port (place.WritingWord k more) shut = absurd cc
opened_quiet world q past port place.WritingSequence shut = absurd cc
opened_quiet world q past port _ shut = tt

hand_quiet : (port : PortView) (at : Place) → is_open at ≡ false → hand_at port at ≡ []
hand_quiet port place.WritingLength shut = absurd cc
hand_quiet port (place.WritingWord k more) shut = absurd cc
hand_quiet port place.WritingSequence shut = absurd cc
hand_quiet port _ shut = refl

not_idle : (p me : ℕ) → p ≢ me → is_of p (Idle me) ≡ 0
not_idle p me other = let e : (me == p) ≡ false = ne_eqb me p (λ s. other (sym s)) in rw e refl

not_denied : (p me word : ℕ) → p ≢ me → is_of p (Denied me word) ≡ 0
not_denied p me word other = let e : (me == p) ≡ false = ne_eqb me p (λ s. other (sym s)) in rw e refl

no_count : (q : ℕ) (line : Line) (past : List Line) → publishes q line ≡ 0 → published_by q (line ∷ past) ≡ published_by q past
no_count q line past none = let s = sum_by-cons (publishes q) line past in omega arith

idle_stepped : (world : World) (q me : ℕ) (messages : List (List ℕ)) (past : List Line) (port : PortView) (done : List (List ℕ)) → IsWorld world → Before world q messages past done → Stands world q me port past done → is_busy port ≡ false →
    Stepped world q me messages past (Idle me ∷ past) port port done
idle_stepped world q me messages past port done is before refines busy = record {
  then_done = done;
  facts = (tt, facts_before world q messages _ past before.facts);
  counted = no_count q (Idle me) past refl ∙ before.counted;
  reader = record { last = refines.reader.last; at = at_quiet world q me _ port done port.place busy };
  others = λ o other_port other r. reader_past world q o past other_port done (Idle me) (not_idle o me other) refl r;
  mine = λ same. (writer_same world q past (Idle me ∷ past) port port done is (λ w inside. refl) (refines.writer same) refl (opened_quiet world q (Idle me ∷ past) port port.place busy), refl);
  beside = λ other. ((λ w inside. refl), refl);
}

-- The messages to come

abbrev pub waiting_messages : List PortCall → List (List ℕ)
waiting_messages [] = []
waiting_messages (call.Publish message ∷ calls) = message ∷ waiting_messages calls
waiting_messages (call.Sample from ∷ calls) = waiting_messages calls

abbrev pub asked_message : ℕ → Event → List (List ℕ)
asked_message q (CallQueued peer (call.Publish message)) = if peer == q then message ∷ [] else []
asked_message q (CallQueued peer (call.Sample from)) = []
asked_message q (TurnTaken peer) = []
asked_message q (Poked peer word value) = []

abbrev pub asked : ℕ → List Event → List (List ℕ)
asked q [] = []
asked q (event ∷ events) = asked_message q event ++ asked q events

abbrev pub pending : PeerState → List (List ℕ)
pending peer_state = hand_messages peer_state.port ++ waiting_messages peer_state.waiting

pending_opened : (peer_state : PeerState) (b : Bool) (waiting : List PortCall) → is_busy peer_state.port ≡ b → peer_state.waiting ≡ waiting → pending (opened_by peer_state b waiting) ≡ pending peer_state
pending_opened peer_state true waiting busy all = refl
pending_opened peer_state false [] busy all = refl
pending_opened peer_state false (call.Publish message ∷ waiting) busy all = rw (hand_quiet peer_state.port peer_state.port.place busy, all) refl
pending_opened peer_state false (call.Sample from ∷ waiting) busy all = rw (hand_quiet peer_state.port peer_state.port.place busy, all) refl

waiting-append : (xs ys : List PortCall) → waiting_messages (xs ++ ys) ≡ waiting_messages xs ++ waiting_messages ys
waiting-append [] ys = refl
waiting-append (call.Publish message ∷ xs) ys = ap (λ ms. message ∷ ms) (waiting-append xs ys)
waiting-append (call.Sample from ∷ xs) ys = waiting-append xs ys

-- The invariant through the history

abbrev pub FairEvent : World → Event → Type 0
FairEvent world (CallQueued peer call) = is_honest world peer ≡ true
FairEvent world (TurnTaken peer) = Unit {0}
FairEvent world (Poked peer word value) = is_honest world peer ≡ false

pub record Good (world : World) (q : ℕ) (messages : List (List ℕ)) (events : List Event) (n : ℕ) (so_far : HistoryState) (done : List (List ℕ)) : Type 0 where
  pub kept : AreKept world n so_far
  pub writer : Writer world q so_far.past (so_far.peer_states q).port done
  pub counted : published_by q so_far.past ≡ length done
  pub facts : Facts world q messages None so_far.past
  pub order : messages ≡ reverse done ++ (pending (so_far.peer_states q) ++ asked q events)
  pub readers : (p : ℕ) → p < world.geometry.peers → Reader world q p so_far.past (so_far.peer_states p).port done
  pub quiet : (p : ℕ) → is_honest world p ≡ false → (is_busy (so_far.peer_states p).port ≡ false) × ((so_far.peer_states p).waiting ≡ [])

all_right : {A : Type 0} (P : A → Type 0) (xs ys : List A) → AllByRecursion P (xs ++ ys) → AllByRecursion P ys
all_right P [] ys all = all
all_right P (x ∷ xs) ys all = all_right P xs ys all.1

all_left : {A : Type 0} (P : A → Type 0) (xs ys : List A) → AllByRecursion P (xs ++ ys) → AllByRecursion P xs
all_left P [] ys all = tt
all_left P (x ∷ xs) ys all = (all.0, all_left P xs ys all.1)

get_at : {A : Type 0} (xs ys : List A) (x : A) → slice_get (xs ++ x ∷ ys) (length xs) ≡ Some x
get_at [] ys x = refl
get_at (z ∷ xs) ys x = get_at xs ys x

newest_is : (messages done rest : List (List ℕ)) → messages ≡ reverse done ++ rest → (m : List ℕ) (older : List (List ℕ)) → done ≡ m ∷ older → slice_get messages (length older) ≡ Some m
newest_is messages done rest is m older here =
    let whole : messages ≡ reverse older ++ m ∷ rest = is ∙ ap (λ ds. reverse ds ++ rest) here ∙ ap (λ r. r ++ rest) (reverse-append (m ∷ []) older) ∙ append_assoc (reverse older) (m ∷ []) rest in
    ap (λ ms. slice_get ms (length older)) whole ∙ ap (λ k. slice_get (reverse older ++ m ∷ rest) k) (sym (length-reverse older)) ∙ get_at (reverse older) rest m

before_of : (world : World) (q n : ℕ) (messages : List (List ℕ)) (events : List Event) (so_far : HistoryState) (done : List (List ℕ)) → Good world q messages events n so_far done → Before world q messages so_far.past done
before_of world q n messages events so_far done good = record {
  sequence = good.writer.sequence;
  latest = good.writer.latest;
  lengths = good.writer.lengths;
  sizes = good.writer.sizes;
  counted = good.counted;
  facts = good.facts;
  newest = newest_is messages done _ good.order;
}

-- A turn

reader_opened : (world : World) (q p : ℕ) (past : List Line) (peer_state : PeerState) (done : List (List ℕ)) (b : Bool) (waiting : List PortCall) → Reader world q p past peer_state.port done → Reader world q p past (opened_by peer_state b waiting).port done
reader_opened world q p past peer_state done true waiting r = r
reader_opened world q p past peer_state done false [] r = r
reader_opened world q p past peer_state done false (call.Publish message ∷ waiting) r = record { last = r.last; at = tt }
reader_opened world q p past peer_state done false (call.Sample from ∷ waiting) r = record { last = r.last; at = tt }

writer_opened : (world : World) (q : ℕ) (past : List Line) (peer_state : PeerState) (done : List (List ℕ)) (b : Bool) (waiting : List PortCall) → IsWorld world → Writer world q past peer_state.port done → Writer world q past (opened_by peer_state b waiting).port done
writer_opened world q past peer_state done true waiting is w = w
writer_opened world q past peer_state done false [] is w = w
writer_opened world q past peer_state done false (call.Publish message ∷ waiting) is w = writer_same world q past past peer_state.port _ done is (λ word inside. refl) w refl tt
writer_opened world q past peer_state done false (call.Sample from ∷ waiting) is w = writer_same world q past past peer_state.port _ done is (λ word inside. refl) w refl tt

turn_stepped : (world : World) (q me : ℕ) (messages : List (List ℕ)) (past : List Line) (port : PortView) (done : List (List ℕ)) (b : Bool) → IsWorld world → q < world.geometry.peers → Before world q messages past done → Stands world q me port past done → is_busy port ≡ b →
    Stepped world q me messages past (reverse (lines_by (TurnTaken me) (if b then Some (step_of_port port (met_by past port)) else None)) ++ past) port (if b then port_after port port.place (met_by past port) else port) done
turn_stepped world q me messages past port done true is there before refines busy =
    let a = access_at port port.place in
    let value = met_by past port in
    subst (λ (ls : List Line). Stepped world q me messages past ls port (port_after port port.place value) done) (sym (step_is me a value (marked (from_at port.place) port.hand (note_at port port.place value)) past))
    (step_at world q me messages past port done port.place is there before refines refl busy refines.port_is.place)
turn_stepped world q me messages past port done false is there before refines busy = idle_stepped world q me messages past port done is before refines busy

hand_message : (world : World) (port : PortView) (p : Place) (m : List ℕ) → AllByRecursion (IsMessage world) (hand_messages port) → port.place ≡ p → hand_at port p ≡ m ∷ [] → IsMessage world m
hand_message world port p m all at is = (subst (λ (ms : List (List ℕ)). AllByRecursion (IsMessage world) ms) (ap (hand_at port) at ∙ is) all).0

stands_opened : (world : World) (q me n : ℕ) (messages : List (List ℕ)) (events : List Event) (so_far : HistoryState) (done : List (List ℕ)) → IsWorld world → me < world.geometry.peers → n < MOST_TURNS → AllByRecursion (IsMessage world) messages → Good world q messages events n so_far done →
    Stands world q me (opened (so_far.peer_states me)).port so_far.past done
stands_opened world q me n messages events so_far done is below small all good =
    let peer_state = so_far.peer_states me in
    let kept = opened_kept world me n peer_state _ _ refl refl (omega arith) (good.kept me below) in
    record {
      port_is = kept.port;
      shape = kept.shape;
      me_is = kept.me_is;
      most = kept.most;
      reader = reader_opened world q me so_far.past peer_state done _ _ (good.readers me below);
      writer = λ same. writer_opened world q so_far.past peer_state done _ _ is (subst (λ (k : ℕ). Writer world q so_far.past (so_far.peer_states k).port done) (sym same) good.writer);
      message = λ same p at m hand.
          let mine : messages ≡ reverse done ++ (pending (so_far.peer_states me) ++ asked q events) = subst (λ (k : ℕ). messages ≡ reverse done ++ (pending (so_far.peer_states k) ++ asked q events)) (sym same) good.order in
          let whole : messages ≡ reverse done ++ (pending (opened peer_state) ++ asked q events) = mine ∙ ap (λ ms. reverse done ++ (ms ++ asked q events)) (sym (pending_opened peer_state _ _ refl refl)) in
          let here = all_left (IsMessage world) (pending (opened peer_state)) (asked q events) (all_right (IsMessage world) (reverse done) _ (subst (λ (ms : List (List ℕ)). AllByRecursion (IsMessage world) ms) whole all)) in
          hand_message world (opened peer_state).port p m (all_left (IsMessage world) (hand_messages (opened peer_state).port) _ here) at hand;
    }

regroup : (a b c d : List (List ℕ)) → a ++ ((b ++ c) ++ d) ≡ (a ++ b) ++ (c ++ d)
regroup a b c d = ap (λ r. a ++ r) (append_assoc b c d) ∙ sym (append_assoc a b (c ++ d))

still_quiet : (peer_state : PeerState) (past : List Line) → is_busy peer_state.port ≡ false → peer_state.waiting ≡ [] → peer_state_in peer_state past (TurnTaken 0) ≡ peer_state
still_quiet peer_state past busy none = let o : opened peer_state ≡ peer_state = rw (busy, none) refl in rw (o, busy) refl

pub turn_good : (world : World) (q me n : ℕ) (messages : List (List ℕ)) (events : List Event) (so_far : HistoryState) (done : List (List ℕ)) → IsWorld world → q < world.geometry.peers → me < world.geometry.peers → n < MOST_TURNS → AllByRecursion (IsMessage world) messages →
    Good world q messages (TurnTaken me ∷ events) n so_far done → (more : List (List ℕ)) × Good world q messages events (n + 1) (after_event world.geometry so_far (TurnTaken me)) more
turn_good world q me n messages events so_far done is there below small all good =
    let refines = stands_opened world q me n messages (TurnTaken me ∷ events) so_far done is below small all good in
    let before = before_of world q n messages (TurnTaken me ∷ events) so_far done good in
    let stepped = turn_stepped world q me messages so_far.past (opened (so_far.peer_states me)).port done _ is there before refines refl in (
      stepped.then_done,
      record {
        kept = kept_one world n so_far (TurnTaken me) small below good.kept;
        writer = writer stepped _ refl;
        counted = stepped.counted;
        facts = stepped.facts;
        order = order stepped _ refl;
        readers = λ p inside. reader stepped p inside _ refl;
        quiet = λ p hostile. quiet p hostile _ refl;
      },
    )
  where
    S : PeerState
    S = opened (so_far.peer_states me)

    new : PortView
    new = (peer_state_in (so_far.peer_states me) so_far.past (TurnTaken me)).port

    next : List Line
    next = (after_event world.geometry so_far (TurnTaken me)).past

    T : Type 0
    T = Stepped world q me messages so_far.past next S.port new done

    writer : (t : T) (b : Bool) → (me == q) ≡ b → Writer world q next (if b then peer_state_in (so_far.peer_states me) so_far.past (TurnTaken me) else so_far.peer_states q).port t.then_done
    writer t true e = (t.mine (eqb-true _ _ e)).0
    writer t false e =
        let beside = t.beside (eqb-false _ _ e) in
        let kept = good.kept q there in
        let port = (so_far.peer_states q).port in
        subst (λ (ds : List (List ℕ)). Writer world q next port ds) (sym beside.1)
        (writer_same world q so_far.past next port port done is beside.0 good.writer refl (opened_same world q so_far.past next port port.place is kept.most kept.port.hand kept.port.place beside.0 good.writer.writing))

    order : (t : T) (b : Bool) → (me == q) ≡ b → messages ≡ reverse t.then_done ++ (pending (if b then peer_state_in (so_far.peer_states me) so_far.past (TurnTaken me) else so_far.peer_states q) ++ asked q events)
    order t true e =
        let same : me ≡ q = eqb-true _ _ e in
        let mine : messages ≡ reverse done ++ (pending (so_far.peer_states me) ++ asked q events) = subst (λ (k : ℕ). messages ≡ reverse done ++ (pending (so_far.peer_states k) ++ asked q events)) (sym same) good.order in
        let whole : messages ≡ reverse done ++ (pending S ++ asked q events) = mine ∙ ap (λ ms. reverse done ++ (ms ++ asked q events)) (sym (pending_opened (so_far.peer_states me) _ _ refl refl)) in
        whole ∙ regroup (reverse done) (hand_messages S.port) (waiting_messages S.waiting) (asked q events) ∙ ap (λ ms. ms ++ (waiting_messages S.waiting ++ asked q events)) (sym (t.mine same).1)
        ∙ sym (regroup (reverse t.then_done) (hand_messages new) (waiting_messages S.waiting) (asked q events))
    order t false e = let beside = t.beside (eqb-false _ _ e) in good.order ∙ ap (λ ds. reverse ds ++ (pending (so_far.peer_states q) ++ asked q events)) (sym beside.1)

    reader : (t : T) (p : ℕ) → p < world.geometry.peers → (b : Bool) → (me == p) ≡ b → Reader world q p next (if b then peer_state_in (so_far.peer_states me) so_far.past (TurnTaken me) else so_far.peer_states p).port t.then_done
    reader t p inside true e = subst (λ (k : ℕ). Reader world q k next new t.then_done) (eqb-true _ _ e) t.reader
    reader t p inside false e = t.others p (so_far.peer_states p).port (λ same. eqb-false _ _ e (sym same)) (good.readers p inside)

    quiet : (p : ℕ) → is_honest world p ≡ false → (b : Bool) → (me == p) ≡ b →
        (is_busy (if b then peer_state_in (so_far.peer_states me) so_far.past (TurnTaken me) else so_far.peer_states p).port ≡ false) × ((if b then peer_state_in (so_far.peer_states me) so_far.past (TurnTaken me) else so_far.peer_states p).waiting ≡ [])
    quiet p hostile true e =
        let q0 = good.quiet p hostile in
        let same : me ≡ p = eqb-true _ _ e in
        let busy : is_busy (so_far.peer_states me).port ≡ false = subst (λ (k : ℕ). is_busy (so_far.peer_states k).port ≡ false) (sym same) q0.0 in
        let none : (so_far.peer_states me).waiting ≡ [] = subst (λ (k : ℕ). (so_far.peer_states k).waiting ≡ []) (sym same) q0.1 in
        let still : peer_state_in (so_far.peer_states me) so_far.past (TurnTaken me) ≡ so_far.peer_states me = still_quiet (so_far.peer_states me) so_far.past busy none in
        (ap (λ (s : PeerState). is_busy s.port) still ∙ busy, ap (λ (s : PeerState). s.waiting) still ∙ none)
    quiet p hostile false e = good.quiet p hostile

-- A call is queued for a peer

asked_port : (me p : ℕ) (so_far : HistoryState) (c : PortCall) (b : Bool) → (me == p) ≡ b → (so_far.peer_states p).port ≡ (if b then record (so_far.peer_states me) { waiting = (so_far.peer_states me).waiting ++ c ∷ [] } else so_far.peer_states p).port
asked_port me p so_far c true e = ap (λ k. (so_far.peer_states k).port) (sym (eqb-true me p e))
asked_port me p so_far c false e = refl

asked_order : (q me : ℕ) (messages : List (List ℕ)) (events : List Event) (so_far : HistoryState) (done : List (List ℕ)) (c : PortCall) (b : Bool) → (me == q) ≡ b → messages ≡ reverse done ++ (pending (so_far.peer_states q) ++ (asked_message q (CallQueued me c) ++ asked q events)) →
    messages ≡ reverse done ++ (pending (if b then record (so_far.peer_states me) { waiting = (so_far.peer_states me).waiting ++ c ∷ [] } else so_far.peer_states q) ++ asked q events)
asked_order q me messages events so_far done (call.Sample from) true e order =
    let same : me ≡ q = eqb-true _ _ e in
    let ws = (so_far.peer_states me).waiting in
    let w : waiting_messages (ws ++ call.Sample from ∷ []) ≡ waiting_messages ws = waiting-append ws (call.Sample from ∷ []) ∙ append-nil (waiting_messages ws) in
    order ∙ ap (λ k. reverse done ++ (pending (so_far.peer_states k) ++ asked q events)) (sym same) ∙ ap (λ ms. reverse done ++ ((hand_messages (so_far.peer_states me).port ++ ms) ++ asked q events)) (sym w)
asked_order q me messages events so_far done (call.Sample from) false e order = order
asked_order q me messages events so_far done (call.Publish m) true e order =
    let same : me ≡ q = eqb-true _ _ e in
    let ws = (so_far.peer_states me).waiting in
    let hs = hand_messages (so_far.peer_states me).port in
    let w : waiting_messages (ws ++ call.Publish m ∷ []) ≡ waiting_messages ws ++ m ∷ [] = waiting-append ws (call.Publish m ∷ []) in
    let mine : messages ≡ reverse done ++ ((hs ++ waiting_messages ws) ++ (m ∷ [] ++ asked q events)) = (rw e at order) ∙ ap (λ k. reverse done ++ (pending (so_far.peer_states k) ++ (m ∷ [] ++ asked q events))) (sym same) in
    mine ∙ ap (λ r. reverse done ++ r) (sym (append_assoc (hs ++ waiting_messages ws) (m ∷ []) (asked q events)) ∙ ap (λ r. r ++ asked q events) (append_assoc hs (waiting_messages ws) (m ∷ []) ∙ ap (λ r. hs ++ r) (sym w)))
asked_order q me messages events so_far done (call.Publish m) false e order = rw e at order

pub asked_good : (world : World) (q me n : ℕ) (c : PortCall) (messages : List (List ℕ)) (events : List Event) (so_far : HistoryState) (done : List (List ℕ)) → IsPermittedEvent world (CallQueued me c) → n < MOST_TURNS → is_honest world me ≡ true →
    Good world q messages (CallQueued me c ∷ events) n so_far done → Good world q messages events (n + 1) (after_event world.geometry so_far (CallQueued me c)) done
asked_good world q me n c messages events so_far done there small honest good = record {
  kept = kept_one world n so_far (CallQueued me c) small there good.kept;
  writer = subst (λ (port : PortView). Writer world q so_far.past port done) (asked_port me q so_far c _ refl) good.writer;
  counted = good.counted;
  facts = good.facts;
  order = asked_order q me messages events so_far done c _ refl good.order;
  readers = λ p below. subst (λ (port : PortView). Reader world q p so_far.past port done) (asked_port me p so_far c _ refl) (good.readers p below);
  quiet = λ p hostile. quiet p hostile _ refl;
}
  where
    never : {p : ℕ} → me ≡ p → is_honest world p ≡ false → ⊥
    never same hostile = let h : true ≡ false = sym honest ∙ ap (is_honest world) same ∙ hostile in cc

    quiet : (p : ℕ) → is_honest world p ≡ false → (b : Bool) → (me == p) ≡ b →
        (is_busy (if b then record (so_far.peer_states me) { waiting = (so_far.peer_states me).waiting ++ c ∷ [] } else so_far.peer_states p).port ≡ false) × ((if b then record (so_far.peer_states me) { waiting = (so_far.peer_states me).waiting ++ c ∷ [] } else so_far.peer_states p).waiting ≡ [])
    quiet p hostile true e = absurd (never (eqb-true _ _ e) hostile)
    quiet p hostile false e = good.quiet p hostile

-- A hostile peer writes a word

poked_peer_state : (me p : ℕ) (so_far : HistoryState) (b : Bool) → (me == p) ≡ b → so_far.peer_states p ≡ (if b then so_far.peer_states me else so_far.peer_states p)
poked_peer_state me p so_far true e = ap so_far.peer_states (sym (eqb-true me p e))
poked_peer_state me p so_far false e = refl

own_section : (world : World) (me word : ℕ) → IsWorld world → MayWrite world.geometry me word → InSection world.geometry me word
own_section world me word is (inl here) = here
own_section world me word is (inr common) = let none = is.common in let low = common.0 in let high = common.1 in absurd (omega arith)

-- The state after such an event.
record Poking (world : World) (q me : ℕ) (messages : List (List ℕ)) (past next : List Line) (done : List (List ℕ)) : Type 0 where
  facts : Facts world q messages None next
  counted : published_by q next ≡ length done
  same : Same world q past next
  others : (p : ℕ) (port : PortView) → p ≢ me → Reader world q p past port done → Reader world q p next port done

poking : (world : World) (q me word value : ℕ) (messages : List (List ℕ)) (past : List Line) (done : List (List ℕ)) (b : Bool) → IsWorld world → me ≢ q → may_write world.geometry me word ≡ b → Before world q messages past done →
    Poking world q me messages past (reverse (lines_by (Poked me word value) (if b then Some (port_step (access.Write word value) 0 None) else None)) ++ past) done
poking world q me word value messages past done true is other may before = record {
  facts = (tt, facts_before world q messages _ past before.facts);
  counted = no_count q (Wrote me word value) past refl ∙ before.counted;
  same = same_beside world q me word value past other (own_section world me word is (may_of world.geometry me word may));
  others = λ p port away r. reader_past world q p past port done (Wrote me word value) (not_wrote p me word value away) refl r;
}
poking world q me word value messages past done false is other may before = record {
  facts = (tt, facts_before world q messages _ past before.facts);
  counted = no_count q (Denied me word) past refl ∙ before.counted;
  same = λ w inside. refl;
  others = λ p port away r. reader_past world q p past port done (Denied me word) (not_denied p me word away) refl r;
}

pub poked_good : (world : World) (q me n word value : ℕ) (messages : List (List ℕ)) (events : List Event) (so_far : HistoryState) (done : List (List ℕ)) → IsWorld world → q < world.geometry.peers → is_honest world q ≡ true → IsPermittedEvent world (Poked me word value) → n < MOST_TURNS → is_honest world me ≡ false →
    Good world q messages (Poked me word value ∷ events) n so_far done → Good world q messages events (n + 1) (after_event world.geometry so_far (Poked me word value)) done
poked_good world q me n word value messages events so_far done is below honest there small hostile good =
    let before = before_of world q n messages (Poked me word value ∷ events) so_far done good in
    let other : me ≢ q = λ e. never e in
    let t = poking world q me word value messages so_far.past done _ is other refl before in
    let kept = good.kept q below in
    let port = (so_far.peer_states q).port in
    record {
      kept = kept_one world n so_far (Poked me word value) small there good.kept;
      writer = subst (λ (s : PeerState). Writer world q next s.port done) (poked_peer_state me q so_far _ refl)
          (writer_same world q so_far.past next port port done is t.same good.writer refl (opened_same world q so_far.past next port port.place is kept.most kept.port.hand kept.port.place t.same good.writer.writing));
      counted = t.counted;
      facts = t.facts;
      order = good.order ∙ ap (λ (s : PeerState). reverse done ++ (pending s ++ asked q events)) (poked_peer_state me q so_far _ refl);
      readers = λ p inside. subst (λ (s : PeerState). Reader world q p next s.port done) (poked_peer_state me p so_far _ refl) (reader t p inside _ refl);
      quiet = λ p bad. subst (λ (s : PeerState). (is_busy s.port ≡ false) × (s.waiting ≡ [])) (poked_peer_state me p so_far _ refl) (good.quiet p bad);
    }
  where
    next : List Line
    next = (after_event world.geometry so_far (Poked me word value)).past

    never : me ≡ q → ⊥
    never e = let h : true ≡ false = sym honest ∙ ap (is_honest world) (sym e) ∙ hostile in cc

    reader : Poking world q me messages so_far.past next done → (p : ℕ) → p < world.geometry.peers → (b : Bool) → (me == p) ≡ b → Reader world q p next (so_far.peer_states p).port done
    reader t p inside true e =
        let same : me ≡ p = eqb-true _ _ e in
        let busy = (good.quiet p (subst (λ (k : ℕ). is_honest world k ≡ false) same hostile)).0 in
        record { last = (good.readers p inside).last; at = at_quiet world q p next (so_far.peer_states p).port done (so_far.peer_states p).port.place busy }
    reader t p inside false e = t.others p (so_far.peer_states p).port (λ same. eqb-false _ _ e (sym same)) (good.readers p inside)

-- All events

good_run : (world : World) (q : ℕ) (messages : List (List ℕ)) (events : List Event) (n : ℕ) (so_far : HistoryState) (done : List (List ℕ)) → IsWorld world → q < world.geometry.peers → is_honest world q ≡ true → AllByRecursion (IsMessage world) messages → n + length events ≤ MOST_TURNS →
    AllByRecursion (IsPermittedEvent world) events → AllByRecursion (FairEvent world) events → Good world q messages events n so_far done → (k : ℕ) × (more : List (List ℕ)) × Good world q messages [] k (run world.geometry events so_far) more
good_run world q messages [] n so_far done is below honest all few there fair good = (n, done, good)
good_run world q messages (CallQueued me c ∷ events) n so_far done is below honest all few there fair good =
    good_run world q messages events (n + 1) _ done is below honest all (omega arith) there.1 fair.1 (asked_good world q me n c messages events so_far done there.0 (omega arith) fair.0 good)
good_run world q messages (TurnTaken me ∷ events) n so_far done is below honest all few there fair good =
    let t = turn_good world q me n messages events so_far done is below there.0 (omega arith) all good in
    good_run world q messages events (n + 1) _ t.0 is below honest all (omega arith) there.1 fair.1 t.1
good_run world q messages (Poked me word value ∷ events) n so_far done is below honest all few there fair good =
    good_run world q messages events (n + 1) _ done is below honest all (omega arith) there.1 fair.1 (poked_good world q me n word value messages events so_far done is below honest there.0 (omega arith) fair.0 good)

-- The events of the acts

asked-append : (q : ℕ) (xs ys : List Event) → asked q (xs ++ ys) ≡ asked q xs ++ asked q ys
asked-append q [] ys = refl
asked-append q (x ∷ xs) ys = ap (λ r. asked_message q x ++ r) (asked-append q xs ys) ∙ sym (append_assoc (asked_message q x) (asked q xs) (asked q ys))

asked_turns : (q peer k : ℕ) → asked q (replicate k (TurnTaken peer)) ≡ []
asked_turns q peer zero = refl
asked_turns q peer (suc k) = asked_turns q peer k

asked_act : (q : ℕ) (a : Act) → asked q (events_of a) ≡ message_in q a
asked_act q (act.Publish peer message) = append-nil (asked_message q (CallQueued peer (call.Publish message)))
asked_act q (act.Sample peer from) = refl
asked_act q (act.Turn peer steps) = asked_turns q peer steps
asked_act q (act.Poke peer word value) = refl

asked_all : (q : ℕ) (acts : List Act) → asked q (schedule acts) ≡ messages_of q acts
asked_all q [] = refl
asked_all q (a ∷ acts) =
    ap (asked q) (flat_map-cons events_of a acts) ∙ asked-append q (events_of a) (flat_map events_of acts) ∙ ap (λ r. r ++ asked q (schedule acts)) (asked_act q a) ∙ ap (λ r. message_in q a ++ r) (asked_all q acts) ∙ sym (flat_map-cons (message_in q) a acts)

both_of : {A : Type 0} (P : A → Type 0) (xs ys : List A) → AllByRecursion P xs → AllByRecursion P ys → AllByRecursion P (xs ++ ys)
both_of P [] ys all more = more
both_of P (x ∷ xs) ys all more = (all.0, both_of P xs ys all.1 more)

not_false_of : (b c : Bool) → (b && not c) ≡ true → (b && c) ≡ false
not_false_of true true is = absurd cc
not_false_of true false is = refl
not_false_of false c is = absurd cc

turns_fair : (world : World) (peer k : ℕ) → AllByRecursion (FairEvent world) (replicate k (TurnTaken peer))
turns_fair world peer zero = tt
turns_fair world peer (suc k) = (tt, turns_fair world peer k)

act_fair : (world : World) (a : Act) → IsAllowed world a → AllByRecursion (FairEvent world) (events_of a)
act_fair world (act.Publish peer message) is = (is.peer, tt)
act_fair world (act.Sample peer from) is = (is.peer, tt)
act_fair world (act.Turn peer steps) is = turns_fair world peer steps
act_fair world (act.Poke peer word value) is = (not_false_of _ _ is.peer, tt)

acts_fair : (world : World) (acts : List Act) → AllByRecursion (IsAllowed world) acts → AllByRecursion (FairEvent world) (schedule acts)
acts_fair world [] all = tt
acts_fair world (a ∷ acts) all = rw flat_map-cons (both_of (FairEvent world) (events_of a) (schedule acts) (act_fair world a all.0) (acts_fair world acts all.1))

bytes_of : (bytes : List ℕ) → ((i : ℕ) → slice_index bytes i < 256) → AllByRecursion IsByte bytes
bytes_of [] all = tt
bytes_of (b ∷ bytes) all = (all 0, bytes_of bytes (λ i. all (suc i)))

within : (k most : ℕ) → (nat_le 1 k && nat_le k most) ≡ true → (1 ≤ k) × (k ≤ most)
within k most is = (grind (arith, nat_tests), grind (arith, nat_tests))

one_message : (world : World) (q peer : ℕ) (message : List ℕ) (b : Bool) → IsMessage world message → AllByRecursion (IsMessage world) (if b then message ∷ [] else [])
one_message world q peer message true is = (is, tt)
one_message world q peer message false is = tt

act_messages : (world : World) (q : ℕ) (a : Act) → IsAllowed world a → AllByRecursion (IsMessage world) (message_in q a)
act_messages world q (act.Publish peer message) is = let size = within _ _ is.message in one_message world q peer message _ (size.0, size.1, bytes_of message is.bytes)
act_messages world q (act.Sample peer from) is = tt
act_messages world q (act.Turn peer steps) is = tt
act_messages world q (act.Poke peer word value) is = tt

all_messages : (world : World) (q : ℕ) (acts : List Act) → AllByRecursion (IsAllowed world) acts → AllByRecursion (IsMessage world) (messages_of q acts)
all_messages world q [] all = tt
all_messages world q (a ∷ acts) all = rw flat_map-cons (both_of (IsMessage world) (message_in q a) (messages_of q acts) (act_messages world q a all.0) (all_messages world q acts all.1))

-- At the start

zero_index : (q : ℕ) → slice_index (replicate 8 0) q ≤ 0
zero_index q = let none = nothing q in omega arith
  where
    nothing : (q : ℕ) → slice_index (replicate 8 0) q ≡ 0
    nothing q = grind (arith, common_steps)

good_at_first : (world : World) (q : ℕ) → IsWorld world → Good world q (messages_of q world.acts) (schedule world.acts) 0 (initial_state world) []
good_at_first world q is = record {
  kept = λ p below. fresh_kept world p is below;
  writer = record { count = refl; sequence = refl; latest = tt; lengths = λ number some few. absurd (omega arith); sizes = tt; writing = tt };
  counted = refl;
  facts = tt;
  order = sym (asked_all q world.acts);
  readers = λ p below. record { last = zero_index q; at = tt };
  quiet = λ p hostile. (refl, refl);
}

below_of : (p n : ℕ) (b : Bool) → (nat_lt p n && b) ≡ true → p < n
below_of p n b is = grind (arith, nat_tests)

pub facts_hold : (world : World) (q : ℕ) → IsWorld world → is_honest world q ≡ true → Facts world q (messages_of q world.acts) None (history_state_after world (schedule world.acts)).past
facts_hold world q is honest =
    let allowed = recursion_from_All (IsAllowed world) world.acts is.allowed in
    let r = good_run world q (messages_of q world.acts) (schedule world.acts) 0 (initial_state world) [] is (below_of q world.geometry.peers _ honest) honest (all_messages world q world.acts allowed) (few_events world is) (all_there world is)
    (acts_fair world world.acts allowed) (good_at_first world q is) in
    r.2.facts

-- Consequences for a line

last_or : Option Line → List Line → Option Line
last_or next [] = next
last_or next (line ∷ lines) = last_or (Some line) lines

fact_at : (world : World) (q : ℕ) (messages : List (List ℕ)) (next : Option Line) (newer : List Line) (line : Line) (older : List Line) → Facts world q messages next (newer ++ line ∷ older) → Fact world q messages (last_or next newer) line older
unfolding last_or
fact_at world q messages next [] line older facts = facts.0
fact_at world q messages next (x ∷ newer) line older facts = fact_at world q messages (Some x) newer line older facts.1

fact_of : HasOneHistory → HistoryIsLawful → (world : World) (before after : List Line) (line : Line) (q : ℕ) → IsWorld world → is_honest world q ≡ true → IsLawful world (before ++ line ∷ after) →
    Fact world q (messages_of q world.acts) (last_or None (reverse after)) line (reverse before)
fact_of one lawful world before after line q is honest here =
    let past = past_is one lawful world (before ++ line ∷ after) is here ∙ split_past before after line in
    fact_at world q (messages_of q world.acts) None (reverse after) line (reverse before) (subst (λ (ls : List Line). Facts world q (messages_of q world.acts) None ls) past (facts_hold world q is honest))

sum_reverse : (f : Line → ℕ) (lines : List Line) → sum_by f (reverse lines) ≡ sum_by f lines
sum_reverse f [] = refl
sum_reverse f (line ∷ lines) =
    let r = reverse-append (line ∷ []) lines in
    let s = sum_by-append f (reverse lines) (line ∷ []) in
    let one = sum_by-cons f line [] in
    let all = sum_by-cons f line lines in
    let rest = sum_reverse f lines in
    ap (sum_by f) r ∙ (omega arith)

last_of : (next : Option Line) (lines : List Line) (line : Line) → last_or next (lines ++ line ∷ []) ≡ Some line
unfolding last_or
last_of next [] line = refl
last_of next (x ∷ lines) line = last_of (Some x) lines line

first_of : (after : List Line) (line : Line) → last_or None (reverse after) ≡ Some line → (rest : List Line) × (after ≡ line ∷ rest)
unfolding last_or
first_of [] line is = absurd cc
first_of (x ∷ after) line is =
    let same : Some x ≡ Some line = sym (last_of None (reverse after) x) ∙ ap (last_or None) (sym (reverse-append (x ∷ []) after)) ∙ is in
    (after, ap (λ (l : Line). l ∷ after) (cc))

pub looks_count_publishes : HasOneHistory → HistoryIsLawful → LooksCountPublishes
looks_count_publishes one lawful world before after reader writer value is honest here =
    let fact = fact_of one lawful world before after (Read reader (section_start world.geometry writer) value) writer is honest here in
    (fact refl).0 ∙ sum_reverse (publishes writer) before

pub zero_is_nothing : HasOneHistory → HistoryIsLawful → ZeroIsNothing
zero_is_nothing one lawful world before after reader writer is honest here =
    let fact = fact_of one lawful world before after (Read reader (section_start world.geometry writer) 0) writer is honest here in
    first_of after (Marked reader (Nothing writer)) ((fact refl).1 refl)

pub nothing_is_unpublished : HasOneHistory → HistoryIsLawful → NothingIsUnpublished
nothing_is_unpublished one lawful world before after reader writer is honest here =
    let fact = fact_of one lawful world before after (Marked reader (Nothing writer)) writer is honest here in
    sym (sum_reverse (publishes writer) before) ∙ fact refl

pub again_is_later : HasOneHistory → HistoryIsLawful → AgainIsLater
again_is_later one lawful world before after reader writer first second is honest here =
    let fact = fact_of one lawful world before after (Marked reader (Again writer first second)) writer is honest here in
    ((fact refl).0, (fact refl).1 ∙ sum_reverse (publishes writer) before)

pub honest_is_not_refused : HasOneHistory → HistoryIsLawful → HonestIsNotRefused
honest_is_not_refused one lawful world before after reader writer value field is honest = λ here. (fact_of one lawful world before after (Marked reader (Refuse writer field value)) writer is honest here) refl

pub got_is_published : HasOneHistory → HistoryIsLawful → GotIsPublished
got_is_published one lawful world before after reader writer number message is honest here =
    let fact = (fact_of one lawful world before after (Marked reader (Got writer number message)) writer is honest here) refl in
    let l = fact.looked in
    let look = Read reader (head_of world writer) number in
    let whole : before ≡ reverse l.early ++ look ∷ reverse l.late = sym (reverse-reverse before) ∙ ap reverse l.is ∙ split_past l.late l.early look in
    record {
      early = reverse l.early;
      late = reverse l.late;
      first_look = whole;
      lines = sum_reverse (is_of reader) l.late ∙ l.lines;
      reads = sum_reverse (is_read_of reader) l.late ∙ l.reads;
      published = sum_reverse (publishes writer) l.early ∙ l.published;
      some = fact.some;
      message_is = fact.message_is;
    }
