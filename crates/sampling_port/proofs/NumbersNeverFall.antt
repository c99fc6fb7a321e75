-- The numbers that a reader gets never fall.
use Rattle.std.proofs.Common.{◌≡◌, ℕ, zero, suc, ◌+◌, ◌<◌, ◌≤◌, Bool, true, false, List, [], ◌∷◌, ◌++◌, length, replicate, refl, sym, ◌∙◌, ap, subst, arith, append_assoc}
use Rattle.std.specs.Prelude.{◌==◌, nat_lt, if◌then◌else◌, Option, Some, None, reverse, slice_index}
use Rattle.std.specs.List.{AllByRecursion}
use Rattle.std.proofs.lemmas.Bool.{eqb-true, eq-eqb}
use Rattle.std.proofs.lemmas.Bool.Decides.{nat_tests}
use Rattle.std.proofs.lemmas.Grind.{common_steps}
use Rattle.std.proofs.lemmas.List.{reverse-append, reverse-reverse}
use Rattle.split_ring.specs.declared.steps.Access.{Access}
use Rattle.split_ring.specs.declared.steps.Access.TheVariants as access
use Rattle.call_grammar.specs.Words.{words_for}
use Rattle.port_text.specs.declared.limits.TheConstants.{MOST_TURNS}
use Rattle.port_text.specs.Scenario.{World, IsWorld}
use Rattle.sampling_port.specs.declared.notes.PortField.TheVariants.{Sequence, Length}
use Rattle.sampling_port.specs.declared.notes.PortNote.{PortNote}
use Rattle.sampling_port.specs.declared.notes.PortNote.TheVariants as note
use Rattle.sampling_port.specs.declared.place.Place.{Place}
use Rattle.sampling_port.specs.declared.place.Place.TheVariants as place
use Rattle.sampling_port.specs.Marks.{PortMark, Publish, Got, Nothing, Again, Refuse, marked}
use Rattle.sampling_port.specs.Trees.{port_step}
use Rattle.sampling_port.specs.Views.{PortView, IsPlace, is_busy, access_at, note_at, from_at, port_after, closed, got, reading_place, writing_place}
use Rattle.sampling_port.specs.Laws.{step_of_port}
use Rattle.sampling_port.specs.Schedule.{PortCall, Event, CallQueued, TurnTaken, Poked, event_peer, schedule}
use Rattle.sampling_port.specs.Schedule as call
use Rattle.sampling_port.specs.EventRecords.{Line, Marked, access_lines, mark_lines, step_lines, lines_by}
use Rattle.sampling_port.specs.Order.{last_with}
use Rattle.sampling_port.specs.Lawful.{IsLawful, HasOneHistory}
use Rattle.sampling_port.specs.History.{PeerState, HistoryState, opened, opened_by, met_by, may_write, peer_state_in, after_event, run, initial_state, history_state_after, history, HistoryIsLawful}
use Rattle.sampling_port.specs.HistoryLaws.{NumbersNeverFall}
use Rattle.sampling_port.specs.Simulator.{IsPermittedEvent}
use Rattle.sampling_port.proofs.Exists.{AreKept, numbers_after, kept_one}
use Rattle.sampling_port.proofs.OneMoreEvent.{Kept, opened_kept, fresh_kept, all_there, few_events}

-- The number of the last message that a reader got from a writer in these lines, listed newest
-- first, or 0.
abbrev highest_with : (reader writer : ℕ) → Line → ℕ → ℕ
highest_with reader writer (Marked peer mark) before = if peer == reader then last_with writer (Some mark) before else before
highest_with reader writer _ before = before

abbrev highest : (reader writer : ℕ) → List Line → ℕ
highest reader writer [] = 0
highest reader writer (line ∷ older) = highest_with reader writer line (highest reader writer older)

abbrev NotFallen : Line → List Line → Type 0
NotFallen (Marked reader (Got writer number message)) older = highest reader writer older ≤ number
NotFallen _ older = Unit {0}

abbrev NeverFallen : List Line → Type 0
NeverFallen [] = Unit {0}
NeverFallen (line ∷ older) = NotFallen line older × NeverFallen older

-- The larger of two numbers

later_lines : (new old : List Line) → NeverFallen (new ++ old) → NeverFallen old
later_lines [] old all = all
later_lines (line ∷ new) old all = later_lines new old all.1

-- One more mark leaves no lower number.
mark_rises : (reader writer peer : ℕ) (mark : PortMark) (older : List Line) (b : Bool) → (peer == reader) ≡ b → NotFallen (Marked peer mark) older → highest reader writer older ≤ (if b then last_with writer (Some mark) (highest reader writer older) else highest reader writer older)
mark_rises reader writer peer mark older false is here = omega arith
mark_rises reader writer peer (Publish number) older true is here = omega arith
mark_rises reader writer peer (Nothing from) older true is here = omega arith
mark_rises reader writer peer (Again from first second) older true is here = omega arith
mark_rises reader writer peer (Refuse from field value) older true is here = omega arith
mark_rises reader writer peer (Got from number message) older true is here = got_rises _ refl
  where
    got_rises : (c : Bool) → (from == writer) ≡ c → highest reader writer older ≤ (if c then number else highest reader writer older)
    got_rises true same =
        let r : peer ≡ reader = eqb-true _ _ is in
        let w : from ≡ writer = eqb-true _ _ same in
        subst (λ (k : ℕ). highest reader k older ≤ number) w (subst (λ (k : ℕ). highest k from older ≤ number) r here)
    got_rises false same = omega arith

line_rises : (reader writer : ℕ) (line : Line) (older : List Line) → NotFallen line older → highest reader writer older ≤ highest reader writer (line ∷ older)
line_rises reader writer (Marked peer mark) older here = mark_rises reader writer peer mark older _ refl here
line_rises reader writer _ older here = omega arith

rises : (reader writer : ℕ) (new old : List Line) → NeverFallen (new ++ old) → highest reader writer old ≤ highest reader writer (new ++ old)
rises reader writer [] old all = omega arith
rises reader writer (line ∷ new) old all =
    let first = rises reader writer new old all.1 in
    let next = line_rises reader writer line (new ++ old) all.0 in
    omega arith

got_is : (reader writer number : ℕ) (message : List ℕ) (old : List Line) → highest reader writer (Marked reader (Got writer number message) ∷ old) ≡ number
got_is reader writer number message old = rw (eq-eqb reader reader refl, eq-eqb writer writer refl) refl

two_numbers : (reader writer number later : ℕ) (message other : List ℕ) (new mid old : List Line) →
    NeverFallen (new ++ Marked reader (Got writer later other) ∷ (mid ++ Marked reader (Got writer number message) ∷ old)) → number ≤ later
two_numbers reader writer number later message other new mid old all =
    let here = later_lines new (Marked reader (Got writer later other) ∷ (mid ++ Marked reader (Got writer number message) ∷ old)) all in
    let first = rises reader writer mid (Marked reader (Got writer number message) ∷ old) here.1 in
    let is = got_is reader writer number message old in
    omega (arith, here.0)

-- The invariant of a port

-- The sample at this place has a number that isn't below the one got last.
abbrev NotBelow : PortView → Place → Type 0
NotBelow port (place.AtLength from sequence) = slice_index port.lasts from ≤ sequence
NotBelow port (place.AtWord from sequence bytes at more) = slice_index port.lasts from ≤ sequence
NotBelow port (place.AtSecond from sequence) = slice_index port.lasts from ≤ sequence
NotBelow port _ = Unit {0}

record Lasts (reader : ℕ) (port : PortView) (past : List Line) : Type 0 where
  lasts : (writer : ℕ) → writer < 8 → slice_index port.lasts writer ≡ highest reader writer past
  place : NotBelow port port.place

below_writing : (port : PortView) (at count : ℕ) → NotBelow (record port { place = writing_place at count }) (writing_place at count)
below_writing port at zero = tt
below_writing port at (suc more) = tt

below_reading : (port new : PortView) (from sequence bytes at count : ℕ) → new.lasts ≡ port.lasts → slice_index port.lasts from ≤ sequence → NotBelow new (reading_place from sequence bytes at count)
below_reading port new from sequence bytes at zero same below = rw same below
below_reading port new from sequence bytes at (suc more) same below = rw same below

below_first : (port : PortView) (from value : ℕ) (b c : Bool) → nat_lt value (slice_index port.lasts from) ≡ b →
    NotBelow (if b then closed port else if c then closed port else record port { place = place.AtLength from value }) (if b then closed port else if c then closed port else record port { place = place.AtLength from value }).place
below_first port from value true c is = tt
below_first port from value false true is = tt
below_first port from value false false is = not_less value (slice_index port.lasts from) is
  where
    not_less : (a b : ℕ) → nat_lt a b ≡ false → b ≤ a
    not_less a b is = grind (arith, nat_tests)

below_length : (port : PortView) (from sequence value : ℕ) (b : Bool) → slice_index port.lasts from ≤ sequence →
    NotBelow (if b then record port { place = reading_place from sequence value 0 (words_for value); hand = [] } else closed port) (if b then record port { place = reading_place from sequence value 0 (words_for value); hand = [] } else closed port).place
below_length port from sequence value true below = below_reading port (record port { place = reading_place from sequence value 0 (words_for value); hand = [] }) from sequence value 0 (words_for value) refl below
below_length port from sequence value false below = tt

below_second : (port : PortView) (from sequence : ℕ) (b : Bool) → NotBelow (if b then got port from sequence else closed port) (if b then got port from sequence else closed port).place
below_second port from sequence true = tt
below_second port from sequence false = tt

below_after : (port : PortView) (p : Place) (value : ℕ) → port.place ≡ p → NotBelow port p → NotBelow (port_after port p value) (port_after port p value).place
below_after port place.Closed value at here = rw at tt
below_after port place.WritingLength value at here = below_writing port 0 (words_for (length port.hand))
below_after port (place.WritingWord k more) value at here = below_writing port (k + 1) more
below_after port place.WritingSequence value at here = tt
below_after port (place.AtSequence from) value at here = below_first port from value _ _ refl
below_after port (place.AtLength from sequence) value at here = below_length port from sequence value _ here
below_after port (place.AtWord from sequence bytes k more) value at here = below_reading port (port_after port (place.AtWord from sequence bytes k more) value) from sequence bytes (k + 1) more refl here
below_after port (place.AtSecond from sequence) value at here = below_second port from sequence _

-- A port that got a message was at its second look.
mark_not_fallen : (reader : ℕ) (port : PortView) (p : Place) (value : ℕ) (past : List Line) (hand : List ℕ) (n : Option PortNote) → note_at port p value ≡ n → NotBelow port p → IsPlace port p → port.shape.peers ≤ 8 →
    ((writer : ℕ) → writer < 8 → slice_index port.lasts writer ≡ highest reader writer past) → NeverFallen past → NeverFallen (mark_lines reader (marked (from_at p) hand n) ++ past)
mark_not_fallen reader port p value past hand None is here there few lasts all = all
mark_not_fallen reader port p value past hand (Some (note.Publish number)) is here there few lasts all = (tt, all)
mark_not_fallen reader port p value past hand (Some note.Nothing) is here there few lasts all = (tt, all)
mark_not_fallen reader port p value past hand (Some (note.Again first second)) is here there few lasts all = (tt, all)
mark_not_fallen reader port p value past hand (Some (note.Refuse field v)) is here there few lasts all = (tt, all)
mark_not_fallen reader port p value past hand (Some (note.Got number)) is here there few lasts all = (second p is here there, all)
  where
    first_never : (b c : Bool) → (if b then Some (note.Refuse Sequence value) else if c then Some note.Nothing else None) ≡ Some (note.Got number) → ⊥
    first_never true c is = absurd cc
    first_never false true is = absurd cc
    first_never false false is = absurd cc

    length_never : (b : Bool) → (if b then None else Some (note.Refuse Length value)) ≡ Some (note.Got number) → ⊥
    length_never true is = absurd cc
    length_never false is = absurd cc

    same_number : (b : Bool) (sequence : ℕ) → (if b then Some (note.Got sequence) else Some (note.Again sequence value)) ≡ Some (note.Got number) → sequence ≡ number
    same_number true sequence is = cc
    same_number false sequence is = absurd cc

    second : (p : Place) → note_at port p value ≡ Some (note.Got number) → NotBelow port p → IsPlace port p → highest reader (from_at p) past ≤ number
    second (place.AtSequence from) is here there = absurd (first_never _ _ is)
    second (place.AtLength from sequence) is here there = absurd (length_never _ is)
    second (place.AtSecond from sequence) is here there = let same = same_number _ sequence is in let last = lasts from (omega arith) in omega arith
    second _ is here there = absurd cc

-- Lines that are no marks

quiet_lines : (me : ℕ) (a : Access) (value : ℕ) (past : List Line) → NeverFallen past → NeverFallen (access_lines me a value ++ past)
quiet_lines me (access.Read word) value past all = (tt, all)
quiet_lines me (access.Write word written) value past all = (tt, all)
quiet_lines me (access.State state) value past all = all
quiet_lines me (access.Ring target vector) value past all = all
quiet_lines me access.Nothing value past all = all

quiet_highest : (reader writer me : ℕ) (a : Access) (value : ℕ) (past : List Line) → highest reader writer (access_lines me a value ++ past) ≡ highest reader writer past
quiet_highest reader writer me (access.Read word) value past = refl
quiet_highest reader writer me _ value past = refl

pub step_is : (me : ℕ) (a : Access) (value : ℕ) (mark : Option PortMark) (past : List Line) → reverse (step_lines me (port_step a value mark)) ++ past ≡ mark_lines me mark ++ (access_lines me a value ++ past)
step_is me (access.Read word) value None past = refl
step_is me (access.Read word) value (Some mark) past = refl
step_is me a value None past = refl
step_is me a value (Some mark) past = refl

mark_highest : (reader writer me : ℕ) (mark : Option PortMark) (past : List Line) (b : Bool) → (me == reader) ≡ b →
    highest reader writer (mark_lines me mark ++ past) ≡ (if b then last_with writer mark (highest reader writer past) else highest reader writer past)
mark_highest reader writer me None past true is = refl
mark_highest reader writer me None past false is = refl
mark_highest reader writer me (Some mark) past b is = rw is refl

-- Events

record Calm (world : World) (n : ℕ) (so_far : HistoryState) : Type 0 where
  all : NeverFallen so_far.past
  kept : AreKept world n so_far
  lasts : (p : ℕ) → p < world.geometry.peers → Lasts p (so_far.peer_states p).port so_far.past

opened_lasts : (p : ℕ) (peer_state : PeerState) (past : List Line) (b : Bool) (waiting : List PortCall) → Lasts p peer_state.port past → Lasts p (opened_by peer_state b waiting).port past
opened_lasts p peer_state past true waiting lasts = lasts
opened_lasts p peer_state past false [] lasts = lasts
opened_lasts p peer_state past false (call.Publish message ∷ waiting) lasts = record { lasts = lasts.lasts; place = tt }
opened_lasts p peer_state past false (call.Sample from ∷ waiting) lasts = record { lasts = lasts.lasts; place = tt }

-- The lines of a turn, and the states of the others.
record Turn (me : ℕ) (past new : List Line) (port : PortView) : Type 0 where
  all : NeverFallen new
  mine : Lasts me port new
  others : (p writer : ℕ) → (me == p) ≡ false → highest p writer new ≡ highest p writer past

turn_calm : (world : World) (me n : ℕ) (peer_state : PeerState) (past : List Line) (b : Bool) → is_busy peer_state.port ≡ b → Kept world me n peer_state → Lasts me peer_state.port past → NeverFallen past →
    Turn me past (reverse (lines_by (TurnTaken me) (if b then Some (step_of_port peer_state.port (met_by past peer_state.port)) else None)) ++ past) (if b then port_after peer_state.port peer_state.port.place (met_by past peer_state.port) else peer_state.port)
turn_calm world me n peer_state past true busy kept lasts all =
    let port = peer_state.port in
    let value = met_by past port in
    let a = access_at port port.place in
    let mark = marked (from_at port.place) port.hand (note_at port port.place value) in
    let quiet = access_lines me a value ++ past in
    let same : reverse (step_lines me (step_of_port port value)) ++ past ≡ mark_lines me mark ++ quiet = step_is me a value mark past in
    let before : (writer : ℕ) → writer < 8 → slice_index port.lasts writer ≡ highest me writer quiet = λ writer few. lasts.lasts writer few ∙ sym (quiet_highest me writer me a value past) in
    let numbers = numbers_after port port.place value kept.port kept.port.place in
    subst (λ (ls : List Line). Turn me past ls (port_after port port.place value)) (sym same) (record {
      all = mark_not_fallen me port port.place value quiet port.hand _ refl lasts.place kept.port.place kept.port.few before (quiet_lines me a value past all);
      mine = record {
        lasts = λ writer few. numbers.lasts writer few ∙ ap (λ k. last_with writer mark k) (before writer few) ∙ sym (mark_highest me writer me mark quiet true (eq-eqb me me refl));
        place = below_after port port.place value refl lasts.place;
      };
      others = λ p writer other. mark_highest p writer me mark quiet false other ∙ quiet_highest p writer me a value past;
    })
turn_calm world me n peer_state past false busy kept lasts all = record { all = (tt, all); mine = record { lasts = lasts.lasts; place = lasts.place }; others = λ p writer other. refl }

turned : (world : World) (n me : ℕ) (so_far : HistoryState) → n < MOST_TURNS → me < world.geometry.peers → Calm world n so_far → Calm world (n + 1) (after_event world.geometry so_far (TurnTaken me))
turned world n me so_far small there calm =
    let peer_state = so_far.peer_states me in
    let t = turn_calm world me n (opened peer_state) so_far.past _ refl (opened_kept world me n peer_state _ _ refl refl (omega arith) (calm.kept me there)) (opened_lasts me peer_state so_far.past _ _ (calm.lasts me there)) calm.all in
    record {
      all = t.all;
      kept = kept_one world n so_far (TurnTaken me) small there calm.kept;
      lasts = λ p below. each t p below _ refl;
    }
  where
    each : Turn me so_far.past (after_event world.geometry so_far (TurnTaken me)).past (peer_state_in (so_far.peer_states me) so_far.past (TurnTaken me)).port → (p : ℕ) → p < world.geometry.peers → (b : Bool) → (me == p) ≡ b →
        Lasts p (if b then peer_state_in (so_far.peer_states me) so_far.past (TurnTaken me) else so_far.peer_states p).port (after_event world.geometry so_far (TurnTaken me)).past
    each t p below true is = subst (λ (k : ℕ). Lasts k (peer_state_in (so_far.peer_states me) so_far.past (TurnTaken me)).port (after_event world.geometry so_far (TurnTaken me)).past) (eqb-true me p is) t.mine
    each t p below false is = let old = calm.lasts p below in record { lasts = λ writer few. old.lasts writer few ∙ sym (t.others p writer is); place = old.place }

asked_peer_state : (me p : ℕ) (peer_state other : PeerState) (call : PortCall) (past : List Line) (b : Bool) → (me == p) ≡ b → Lasts p other.port past → (b ≡ true → Lasts p peer_state.port past) →
    Lasts p (if b then record peer_state { waiting = peer_state.waiting ++ call ∷ [] } else other).port past
asked_peer_state me p peer_state other call past true is lasts mine = let m = mine refl in record { lasts = m.lasts; place = m.place }
asked_peer_state me p peer_state other call past false is lasts mine = lasts

poked_peer_state : (me p : ℕ) (peer_state other : PeerState) (past : List Line) (b : Bool) → (b ≡ true → Lasts p peer_state.port past) → Lasts p other.port past → Lasts p (if b then peer_state else other).port past
poked_peer_state me p peer_state other past true mine other_start = mine refl
poked_peer_state me p peer_state other past false mine other_start = other_start

poked_all : (me word value : ℕ) (past : List Line) (b : Bool) → NeverFallen past → NeverFallen (reverse (lines_by (Poked me word value) (if b then Some (port_step (access.Write word value) 0 None) else None)) ++ past)
poked_all me word value past true all = (tt, all)
poked_all me word value past false all = (tt, all)

poked_highest : (p writer me word value : ℕ) (past : List Line) (b : Bool) → highest p writer (reverse (lines_by (Poked me word value) (if b then Some (port_step (access.Write word value) 0 None) else None)) ++ past) ≡ highest p writer past
poked_highest p writer me word value past true = refl
poked_highest p writer me word value past false = refl

calm_on : (world : World) (n : ℕ) (so_far : HistoryState) (event : Event) → n < MOST_TURNS → IsPermittedEvent world event → Calm world n so_far → Calm world (n + 1) (after_event world.geometry so_far event)
calm_on world n so_far (CallQueued me call) small there calm = record {
  all = calm.all;
  kept = kept_one world n so_far (CallQueued me call) small there calm.kept;
  lasts = λ p below. asked_peer_state me p (so_far.peer_states me) (so_far.peer_states p) call so_far.past _ refl (calm.lasts p below) (λ is. subst (λ (k : ℕ). Lasts p (so_far.peer_states k).port so_far.past) (sym (eqb-true me p is)) (calm.lasts p below));
}
calm_on world n so_far (TurnTaken me) small there calm = turned world n me so_far small there calm
calm_on world n so_far (Poked me word value) small there calm =
    let b = may_write world.geometry me word in
    record {
      all = poked_all me word value so_far.past b calm.all;
      kept = kept_one world n so_far (Poked me word value) small there calm.kept;
      lasts = λ p below.
          let old = calm.lasts p below in
          let new : Lasts p (so_far.peer_states p).port (after_event world.geometry so_far (Poked me word value)).past = record { lasts = λ writer few. old.lasts writer few ∙ sym (poked_highest p writer me word value so_far.past b); place = old.place } in
          poked_peer_state me p (so_far.peer_states me) (so_far.peer_states p) _ _ (λ is. subst (λ (k : ℕ). Lasts p (so_far.peer_states k).port (after_event world.geometry so_far (Poked me word value)).past) (sym (eqb-true me p is)) new) new;
    }

calm_run : (world : World) (events : List Event) (n : ℕ) (so_far : HistoryState) → n + length events ≤ MOST_TURNS → AllByRecursion (IsPermittedEvent world) events → Calm world n so_far → Calm world (n + length events) (run world.geometry events so_far)
calm_run world [] n so_far few there calm = subst (λ (k : ℕ). Calm world k so_far) (omega arith) calm
calm_run world (event ∷ events) n so_far few there calm =
    subst (λ (k : ℕ). Calm world k (run world.geometry events (after_event world.geometry so_far event))) (omega arith)
    (calm_run world events (n + 1) (after_event world.geometry so_far event) (omega arith) there.1 (calm_on world n so_far event (omega arith) there.0 calm))

calm_at_first : (world : World) → IsWorld world → Calm world 0 (initial_state world)
calm_at_first world is = record {
  all = tt;
  kept = λ p below. fresh_kept world p is below;
  lasts = λ p below. record { lasts = λ writer few. none writer; place = tt };
}
  where
    none : (writer : ℕ) → slice_index (replicate 8 0) writer ≡ 0
    none writer = grind (arith, common_steps)

never_fallen : (world : World) → IsWorld world → NeverFallen (history_state_after world (schedule world.acts)).past
never_fallen world is = (calm_run world (schedule world.acts) 0 (initial_state world) (few_events world is) (all_there world is) (calm_at_first world is)).all

-- The computed past is the lawful lines, newest first.
pub past_is : HasOneHistory → HistoryIsLawful → (world : World) (lines : List Line) → IsWorld world → IsLawful world lines → (history_state_after world (schedule world.acts)).past ≡ reverse lines
past_is one lawful world lines is here =
    let same : lines ≡ history world = one world lines (history world) here (lawful world is) in
    sym (ap reverse same ∙ reverse-reverse (history_state_after world (schedule world.acts)).past)

-- The lines before and after one, newest first.
pub split_past : (before after : List Line) (line : Line) → reverse (before ++ line ∷ after) ≡ reverse after ++ line ∷ reverse before
split_past before after line = reverse-append before (line ∷ after) ∙ ap (λ r. r ++ reverse before) (reverse-append (line ∷ []) after) ∙ append_assoc (reverse after) (line ∷ []) (reverse before)

pub numbers_never_fall : HasOneHistory → HistoryIsLawful → NumbersNeverFall
numbers_never_fall one lawful world before mid after reader writer number later message other is here =
    let first = Marked reader (Got writer number message) in
    let second = Marked reader (Got writer later other) in
    let past = past_is one lawful world (before ++ first ∷ mid ++ second ∷ after) is here in
    let whole : reverse (before ++ first ∷ mid ++ second ∷ after) ≡ reverse after ++ second ∷ (reverse mid ++ first ∷ reverse before) =
    split_past (before ++ first ∷ mid) after second ∙ ap (λ (ls : List Line). reverse after ++ second ∷ ls) (split_past before mid first) in
    two_numbers reader writer number later message other (reverse after) (reverse mid) (reverse before) (subst NeverFallen (past ∙ whole) (never_fallen world is))
