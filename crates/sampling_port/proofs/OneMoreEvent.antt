-- The simulator refines the history after one more event.
use Rattle.std.proofs.Common.{◌≡◌, ◌≢◌, ℕ, zero, suc, ◌+◌, ◌*◌, ◌^◌, ◌<◌, ◌≤◌, Bool, true, false, List, [], ◌∷◌, ◌++◌, length, get_or, take, drop, replicate, arith, refl, sym, ap, ◌∙◌, subst, append_assoc, length-set}
use Rattle.std.specs.Prelude.{◌==◌, nat_lt, nat_le, ◌&&◌, if◌then◌else◌, Result, Ok, Err, OnOk, Option, Some, None, reverse, slice_get, slice_set}
use Rattle.std.specs.List.{AllByRecursion, flat_map}
use Rattle.std.proofs.lemmas.Bool.{eqb-true, eqb-false}
use Rattle.std.proofs.lemmas.Bool.Decides.{nat_tests}
use Rattle.std.proofs.lemmas.Option.{same_Some, slice_get_within, slice_get_read, get_or_from_slice_get}
use Rattle.std.proofs.lemmas.Grind.{get_or-set_at}
use Rattle.std.proofs.lemmas.List.{append-nil, set-get_or, get_or-set_other, take_more, take_all, length-append, length-reverse, length-replicate, replicate-append-replicate, take-append-drop}
use Rattle.std.proofs.lemmas.List.Concat.{flat_map-append, flat_map-cons}
use Rattle.std.proofs.lemmas.List.Sums.{sum_by-append, sum_by-cons}
use Rattle.call_grammar.specs.Words.{words_for}
use Rattle.port_text.specs.declared.limits.TheConstants.{MOST_TURNS}
use Rattle.port_text.specs.declared.acts.Act.{Act}
use Rattle.port_text.specs.declared.acts.Act.TheVariants as act
use Rattle.port_text.specs.Acts.{cost, turns_of}
use Rattle.port_text.specs.Scenario.{World, IsWorld, IsAllowed}
use Rattle.sampling_port.specs.declared.peer_state.PeerState as sits
use Rattle.sampling_port.specs.declared.place.Place.{Place}
use Rattle.sampling_port.specs.declared.place.Place.TheVariants as place
use Rattle.sampling_port.specs.declared.simulator.Simulator.{Simulator}
use Rattle.sampling_port.specs.Trees.{PortStep}
use Rattle.sampling_port.specs.Views.{PortView, IsPort, is_open, is_busy, port_after, closed, got, writing_place, reading_place}
use Rattle.sampling_port.specs.Schedule.{PortCall, Publish, Sample, Event, CallQueued, TurnTaken, Poked, event_peer, events_of, schedule}
use Rattle.sampling_port.specs.EventRecords.{Line, lines_by, lines_of, access_lines, mark_lines, step_lines}
use Rattle.sampling_port.specs.History.{PeerState, HistoryState, opening, opened_by, opened, met_by, poked_step, step_in, peer_state_in, entry_of, after_event, run, initial_state, history_state_after, history}
use Rattle.sampling_port.specs.Simulator.{peer_state_of, WorldStateAfter, IsPermittedCall, IsPermittedEvent, RunsTo, Happens, AreAtStart, IsReady}
use Rattle.sampling_port.proofs.PortInvariant.{moved, port_kept}
use Rattle.section_map.specs.Geometry.{Shape}
use Rattle.split_ring.specs.declared.steps.Access.{Access}
use Rattle.split_ring.specs.declared.steps.Access.TheVariants as access
use Rattle.sampling_port.specs.Marks.{PortMark}
use Rattle.std.proofs.lemmas.List.Elements.{recursion_from_All}
use Rattle.line_format.specs.Rows.{row, line_of_row}
use Rattle.port_text.specs.Spelling.{spelling}
use Rattle.sampling_port.specs.declared.lines.Form.TheVariants.{Head, End}
use Rattle.sampling_port.specs.LineRows.{pieces_of_line}
use Rattle.sampling_port.specs.Record.{text_of_lines, record_of}

pub run-snoc : (g : Shape) (events : List Event) (event : Event) (so_far : HistoryState) → run g (events ++ event ∷ []) so_far ≡ after_event g (run g events so_far) event
run-snoc g [] event so_far = refl
run-snoc g (x ∷ events) event so_far = run-snoc g events event (after_event g so_far x)

all-snoc : {A : Type 0} (P : A → Type 0) (items : List A) (item : A) → AllByRecursion P items → P item → AllByRecursion P (items ++ item ∷ [])
all-snoc P [] item all here = (here, tt)
all-snoc P (x ∷ items) item all here = (all.0, all-snoc P items item all.1 here)

-- The number of lines

one_access : (peer : ℕ) (a : Access) (value : ℕ) → length (access_lines peer a value) ≤ 1
one_access peer (access.Read word) value = omega arith
one_access peer _ value = omega arith

one_mark : (peer : ℕ) (mark : Option PortMark) → length (mark_lines peer mark) ≤ 1
one_mark peer (Some mark) = omega arith
one_mark peer None = omega arith

two_lines : (peer : ℕ) (step : PortStep) → length (step_lines peer step) ≤ 2
two_lines peer step = let a = one_access peer step.access step.value in let m = one_mark peer step.mark in let both = length-append (access_lines peer step.access step.value) (mark_lines peer step.mark) in omega arith

few_lines : (event : Event) (went : Option PortStep) → length (lines_by event went) ≤ 2
few_lines (CallQueued peer call) went = omega arith
few_lines (TurnTaken peer) None = omega arith
few_lines (TurnTaken peer) (Some step) = two_lines peer step
few_lines (Poked peer word value) None = omega arith
few_lines (Poked peer word value) (Some step) = two_lines peer step

pub count_few : (g : Shape) (events : List Event) (so_far : HistoryState) → length (run g events so_far).past ≤ length so_far.past + 2 * length events
count_few g [] so_far = omega arith
count_few g (event ∷ events) so_far =
    let new = lines_of (entry_of g so_far event) in
    let few = few_lines event (entry_of g so_far event).went in
    let later = count_few g events (after_event g so_far event) in
    let both = length-append (reverse new) so_far.past in
    let same = length-reverse new in
    omega arith

-- The bound of a peer state after n events

-- An open call counts as one.
abbrev pending : Bool → ℕ
pending true = 1
pending false = 0

pub record Kept (world : World) (me n : ℕ) (peer_state : PeerState) : Type 0 where
  pub port : IsPort peer_state.port
  pub shape : peer_state.port.shape ≡ world.geometry
  pub me_is : peer_state.port.me ≡ me
  pub most : peer_state.port.most ≡ world.most
  pub waiting : AllByRecursion (IsPermittedCall world) peer_state.waiting
  pub few : peer_state.port.published + pending (is_busy peer_state.port) + length peer_state.waiting ≤ n

later : (world : World) (me n : ℕ) (peer_state : PeerState) → Kept world me n peer_state → Kept world me (n + 1) peer_state
later world me n peer_state kept = let few = kept.few in record { port = kept.port; shape = kept.shape; me_is = kept.me_is; most = kept.most; waiting = kept.waiting; few = omega arith }

asked_kept : (world : World) (me n : ℕ) (peer_state : PeerState) (call : PortCall) → Kept world me n peer_state → IsPermittedCall world call → Kept world me (n + 1) (record peer_state { waiting = peer_state.waiting ++ call ∷ [] })
asked_kept world me n peer_state call kept given =
    let few = kept.few in
    let more = length-append peer_state.waiting (call ∷ []) in
    record { port = kept.port; shape = kept.shape; me_is = kept.me_is; most = kept.most; waiting = all-snoc (IsPermittedCall world) peer_state.waiting call kept.waiting given; few = omega arith }

open_port : (world : World) (port : PortView) (call : PortCall) → IsPort port → port.shape ≡ world.geometry → port.most ≡ world.most → IsPermittedCall world call → port.published + 1 < 2 ^ 32 → IsPort (opening port call)
open_port world port (Publish message) is shape most given number = moved port place.WritingLength message is (omega (arith, given.1)) (given.0, number)
open_port world port (Sample from) is shape most given number = moved port (place.AtSequence from) port.hand is is.hand (rw shape given)

pub opened_kept : (world : World) (me n : ℕ) (peer_state : PeerState) (b : Bool) (waiting : List PortCall) → is_busy peer_state.port ≡ b → peer_state.waiting ≡ waiting → n < 4000001 → Kept world me n peer_state → Kept world me n (opened_by peer_state b waiting)
opened_kept world me n peer_state true waiting busy all small kept = kept
opened_kept world me n peer_state false [] busy all small kept = kept
opened_kept world me n peer_state false (call ∷ waiting) busy all small kept =
    let given : AllByRecursion (IsPermittedCall world) (call ∷ waiting) = subst (λ (cs : List PortCall). AllByRecursion (IsPermittedCall world) cs) all kept.waiting in
    let few = kept.few in
    let count : length peer_state.waiting ≡ suc (length waiting) = ap length all in
    let none : pending (is_busy peer_state.port) ≡ 0 = ap pending busy in
    made call given few count none
  where
    made : (call : PortCall) → AllByRecursion (IsPermittedCall world) (call ∷ waiting) → peer_state.port.published + pending (is_busy peer_state.port) + length peer_state.waiting ≤ n → length peer_state.waiting ≡ suc (length waiting) → pending (is_busy peer_state.port) ≡ 0 →
        Kept world me n (record { port = opening peer_state.port call; waiting = waiting })
    made (Publish message) given few count none = record {
      port = open_port world peer_state.port (Publish message) kept.port kept.shape kept.most given.0 (omega arith);
      shape = kept.shape;
      me_is = kept.me_is;
      most = kept.most;
      waiting = given.1;
      few = omega arith;
    }
    made (Sample from) given few count none = record {
      port = open_port world peer_state.port (Sample from) kept.port kept.shape kept.most given.0 (omega arith);
      shape = kept.shape;
      me_is = kept.me_is;
      most = kept.most;
      waiting = given.1;
      few = omega arith;
    }

-- The numbers after a step.
pub record Same (old new : PortView) : Type 0 where
  pub shape : new.shape ≡ old.shape
  pub me : new.me ≡ old.me
  pub most : new.most ≡ old.most
  pub count : new.published + pending (is_busy new) ≤ old.published + 1

same_first : (port : PortView) (from value : ℕ) (b c : Bool) → Same port (if b then closed port else if c then closed port else record port { place = place.AtLength from value })
same_first port from value true c = record { shape = refl; me = refl; most = refl; count = omega arith }
same_first port from value false true = record { shape = refl; me = refl; most = refl; count = omega arith }
same_first port from value false false = record { shape = refl; me = refl; most = refl; count = omega arith }

at_most : (b : Bool) → pending b ≤ 1
at_most true = omega arith
at_most false = omega arith

same_length : (port : PortView) (from sequence value : ℕ) (b : Bool) → Same port (if b then record port { place = reading_place from sequence value 0 (words_for value); hand = [] } else closed port)
same_length port from sequence value true = record { shape = refl; me = refl; most = refl; count = omega (arith, at_most (is_open (reading_place from sequence value 0 (words_for value)))) }
same_length port from sequence value false = record { shape = refl; me = refl; most = refl; count = omega arith }

same_second : (port : PortView) (from sequence : ℕ) (b : Bool) → Same port (if b then got port from sequence else closed port)
same_second port from sequence true = record { shape = refl; me = refl; most = refl; count = omega arith }
same_second port from sequence false = record { shape = refl; me = refl; most = refl; count = omega arith }

pub same_after : (port : PortView) (p : Place) (value : ℕ) → is_open p ≡ true → Same port (port_after port p value)
same_after port place.Closed value opens = absurd cc
same_after port place.WritingLength value opens = record { shape = refl; me = refl; most = refl; count = omega (arith, at_most (is_open (writing_place 0 (words_for (length port.hand))))) }
same_after port (place.WritingWord at more) value opens = record { shape = refl; me = refl; most = refl; count = omega (arith, at_most (is_open (writing_place (at + 1) more))) }
same_after port place.WritingSequence value opens = record { shape = refl; me = refl; most = refl; count = omega arith }
same_after port (place.AtSequence from) value opens = same_first port from value _ _
same_after port (place.AtLength from sequence) value opens = same_length port from sequence value _
same_after port (place.AtWord from sequence bytes at more) value opens = record { shape = refl; me = refl; most = refl; count = omega (arith, at_most (is_open (reading_place from sequence bytes (at + 1) more))) }
same_after port (place.AtSecond from sequence) value opens = same_second port from sequence _

turn_kept : (world : World) (me n : ℕ) (peer_state : PeerState) (past : List Line) (b : Bool) → is_busy peer_state.port ≡ b → Kept world me n peer_state →
    Kept world me n (record { port = if b then port_after peer_state.port peer_state.port.place (met_by past peer_state.port) else peer_state.port; waiting = peer_state.waiting })
turn_kept world me n peer_state past true busy kept =
    let same = same_after peer_state.port peer_state.port.place (met_by past peer_state.port) busy in
    let few = kept.few in
    let one : pending (is_busy peer_state.port) ≡ 1 = ap pending busy in
    let count = same.count in
    record {
      port = port_kept peer_state.port peer_state.port.place (met_by past peer_state.port) refl kept.port kept.port.place;
      shape = same.shape ∙ kept.shape;
      me_is = same.me ∙ kept.me_is;
      most = same.most ∙ kept.most;
      waiting = kept.waiting;
      few = omega arith;
    }
turn_kept world me n peer_state past false busy kept = kept

-- One more event preserves the bound of each peer state.
pub peer_state_kept : (world : World) (me n : ℕ) (peer_state : PeerState) (past : List Line) (event : Event) → n < 4000001 → IsPermittedEvent world event → Kept world me n peer_state → Kept world me (n + 1) (peer_state_in peer_state past event)
peer_state_kept world me n peer_state past (CallQueued peer call) small there kept = asked_kept world me n peer_state call kept there.1
peer_state_kept world me n peer_state past (TurnTaken peer) small there kept = later world me n _ (turn_kept world me n (opened peer_state) past _ refl (opened_kept world me n peer_state _ _ refl refl small kept))
peer_state_kept world me n peer_state past (Poked peer word value) small there kept = later world me n peer_state kept

with_kept : (world : World) (p me n : ℕ) (peer_state : PeerState) (peer_states : ℕ → PeerState) (b : Bool) → (me == p) ≡ b → (b ≡ true → Kept world p n peer_state) → (b ≡ false → Kept world p n (peer_states p)) → Kept world p n (if b then peer_state else peer_states p)
with_kept world p me n peer_state peer_states true is here other = here refl
with_kept world p me n peer_state peer_states false is here other = other refl

pub kept_on : (world : World) (g : Shape) (events : List Event) (n : ℕ) (so_far : HistoryState) → n + length events ≤ MOST_TURNS → AllByRecursion (IsPermittedEvent world) events → ((p : ℕ) → p < world.geometry.peers → Kept world p n (so_far.peer_states p)) →
    (p : ℕ) → p < world.geometry.peers → Kept world p (n + length events) ((run g events so_far).peer_states p)
kept_on world g [] n so_far few there kept p below = subst (λ (k : ℕ). Kept world p k (so_far.peer_states p)) (omega arith) (kept p below)
kept_on world g (event ∷ events) n so_far few there kept p below =
    subst (λ (k : ℕ). Kept world p k ((run g events (after_event g so_far event)).peer_states p)) (omega arith)
    (kept_on world g events (n + 1) (after_event g so_far event) (omega arith) there.1
    (λ q inside. with_kept world q (event_peer event) (n + 1) _ so_far.peer_states _ refl
    (λ same. let is : event_peer event ≡ q = eqb-true _ _ same in subst (λ (k : ℕ). Kept world q (n + 1) (peer_state_in (so_far.peer_states k) so_far.past event)) (sym is) (peer_state_kept world q n (so_far.peer_states q) so_far.past event (omega arith) there.0 (kept q inside)))
    (λ other. later world q n (so_far.peer_states q) (kept q inside))) p below)

pub fresh_kept : (world : World) (p : ℕ) → IsWorld world → p < world.geometry.peers → Kept world p 0 ((initial_state world).peer_states p)
fresh_kept world p is below = record {
  port = record {
    shaped = is.geometry;
    few = is.few;
    me = below;
    size = is.size;
    room = is.room;
    lasts = refl;
    hand = omega arith;
    message = omega arith;
    place = tt;
  };
  shape = refl;
  me_is = refl;
  most = refl;
  waiting = tt;
  few = omega arith;
}

pub kept_at : (world : World) (events : List Event) (p : ℕ) → IsWorld world → length events ≤ MOST_TURNS → AllByRecursion (IsPermittedEvent world) events → p < world.geometry.peers → Kept world p (length events) ((history_state_after world events).peer_states p)
kept_at world events p is few there below = subst (λ (k : ℕ). Kept world p k ((history_state_after world events).peer_states p)) (omega arith) (kept_on world world.geometry events 0 (initial_state world) (omega arith) there (λ q inside. fresh_kept world q is inside) p below)

pub ready_at : (world : World) (events : List Event) (p : ℕ) (peer_state : PeerState) → IsWorld world → length events ≤ MOST_TURNS → AllByRecursion (IsPermittedEvent world) events → p < world.geometry.peers → peer_state ≡ (history_state_after world events).peer_states p → IsReady world p peer_state
ready_at world events p peer_state is few there below same =
    let kept = kept_at world events p is few there below in
    let bound = kept.few in
    subst (λ (s : PeerState). IsReady world p s) (sym same) (record { port = kept.port; shape = kept.shape; me_is = kept.me_is; most = kept.most; waiting = kept.waiting; numbers = omega arith })

-- The record has space for more lines.
pub room_of : (world : World) (front : List ℕ) (events : List Event) (s : Simulator) → RunsTo world front events s → s.world_state.recorded.count < 2 ^ 62
room_of world front events s runs = let count = runs.after.recorded.count in let few = count_few world.geometry events (initial_state world) in let all = runs.few in omega arith

-- Peer states

-- A list with one element set, at that position and at others.
set_at : {A : Type 0} (xs : List A) (p k : ℕ) (x y : A) → k ≡ p → slice_get (slice_set xs p x) k ≡ Some y → x ≡ y
set_at xs p k x y is at = sym (get_or-set_at xs p k x y is (omega (arith, is, length-set xs p x, slice_get_within (slice_set xs p x) k y at))) ∙ get_or_from_slice_get (slice_set xs p x) k y y at

set_beside : {A : Type 0} (xs : List A) (p k : ℕ) (x y : A) → k ≢ p → slice_get (slice_set xs p x) k ≡ Some y → slice_get xs k ≡ Some y
set_beside xs p k x y other at =
    slice_get_read xs (length xs) k y refl (omega (arith, length-set xs p x, slice_get_within (slice_set xs p x) k y at)) (sym (get_or_from_slice_get (slice_set xs p x) k y y at) ∙ get_or-set_other xs p k x y other)

-- One event of a peer, with the peer state and the world state after it.
pub record OneMore (world : World) (front : List ℕ) (so_far : HistoryState) (event : Event) (s s' : Simulator) (peer_state : sits.PeerState) : Type 0 where
  pub items : s'.peer_states.items ≡ slice_set s.peer_states.items (event_peer event) peer_state
  pub shape : s'.world_state.region.shape ≡ s.world_state.region.shape
  pub after : WorldStateAfter front (after_event world.geometry so_far event).past s'.world_state
  pub peer_state_is : peer_state_of peer_state ≡ peer_state_in (so_far.peer_states (event_peer event)) so_far.past event

peer_state_there : (world : World) (front : List ℕ) (events : List Event) (event : Event) (s s' : Simulator) (peer_state : sits.PeerState) → OneMore world front (history_state_after world events) event s s' peer_state → RunsTo world front events s →
    (k : ℕ) (found : sits.PeerState) (b : Bool) → (event_peer event == k) ≡ b → slice_get (slice_set s.peer_states.items (event_peer event) peer_state) k ≡ Some found →
    peer_state_of found ≡ (if b then peer_state_in ((history_state_after world events).peer_states (event_peer event)) (history_state_after world events).past event else (history_state_after world events).peer_states k)
peer_state_there world front events event s s' peer_state more runs k found true is at =
    let same : event_peer event ≡ k = eqb-true _ _ is in
    ap peer_state_of (sym (set_at s.peer_states.items (event_peer event) k peer_state found (sym same) at)) ∙ more.peer_state_is
peer_state_there world front events event s s' peer_state more runs k found false is at =
    let other : k ≢ event_peer event = λ e. eqb-false _ _ is (sym e) in
    runs.peer_states k found (set_beside s.peer_states.items (event_peer event) k peer_state found other at)

pub goes_on : (world : World) (front : List ℕ) (events : List Event) (event : Event) (s s' : Simulator) (peer_state : sits.PeerState) → IsPermittedEvent world event → length events < MOST_TURNS → OneMore world front (history_state_after world events) event s s' peer_state →
    RunsTo world front events s → RunsTo world front (events ++ event ∷ []) s'
goes_on world front events event s s' peer_state there small more runs =
    let next : history_state_after world (events ++ event ∷ []) ≡ after_event world.geometry (history_state_after world events) event = run-snoc world.geometry events event (initial_state world) in
    let count = length-append events (event ∷ []) in
    record {
      is_world = runs.is_world;
      there = all-snoc (IsPermittedEvent world) events event runs.there there;
      few = omega arith;
      shape = more.shape ∙ runs.shape;
      after = subst (λ (m : HistoryState). WorldStateAfter front m.past s'.world_state) (sym next) more.after;
      count = ap length more.items ∙ length-set s.peer_states.items (event_peer event) peer_state ∙ runs.count;
      peer_states = λ k found is. peer_state_there world front events event s s' peer_state more runs k found (event_peer event == k) refl (subst (λ (xs : List sits.PeerState). slice_get xs k ≡ Some found) more.items is)
          ∙ ap (λ (m : HistoryState). m.peer_states k) (sym next);
    }

pub there_below : (world : World) (event : Event) → IsPermittedEvent world event → event_peer event < world.geometry.peers
there_below world (CallQueued peer call) there = there.0
there_below world (TurnTaken peer) there = there
there_below world (Poked peer word value) there = there

-- An event of a peer state and the world state.
pub happened : (event : Event) (s s' : Simulator) (old peer_state : sits.PeerState) → slice_get s.peer_states.items (event_peer event) ≡ Some old → s'.peer_states.items ≡ slice_set s.peer_states.items (event_peer event) peer_state →
    s'.world_state.region.shape ≡ s.world_state.region.shape →
    ((front : List ℕ) (past : List Line) → WorldStateAfter front past s.world_state →
    WorldStateAfter front (reverse (lines_by event (step_in s.world_state.region.shape (peer_state_of old) past event)) ++ past) s'.world_state × (peer_state_of peer_state ≡ peer_state_in (peer_state_of old) past event)) → Happens event s s'
happened event s s' old peer_state at items shape after = λ world front events there small runs.
    let m = history_state_after world events in
    let here : peer_state_of old ≡ m.peer_states (event_peer event) = runs.peer_states (event_peer event) old at in
    let t = after front m.past runs.after in
    goes_on world front events event s s' peer_state there small (record {
      items = items;
      shape = shape;
      after = subst (λ (g : Shape). WorldStateAfter front (reverse (lines_by event (step_in g (m.peer_states (event_peer event)) m.past event)) ++ m.past) s'.world_state) runs.shape
          (subst (λ (x : PeerState). WorldStateAfter front (reverse (lines_by event (step_in s.world_state.region.shape x m.past event)) ++ m.past) s'.world_state) here t.0);
      peer_state_is = t.1 ∙ ap (λ (x : PeerState). peer_state_in x m.past event) here;
    }) runs

pub peer_state_happens : {T E : Type 0} (r : Result T E) (event : Event) (s s' : Simulator) (old peer_state : sits.PeerState) → slice_get s.peer_states.items (event_peer event) ≡ Some old → s'.peer_states.items ≡ slice_set s.peer_states.items (event_peer event) peer_state →
    s'.world_state.region.shape ≡ s.world_state.region.shape →
    ((front : List ℕ) (past : List Line) → WorldStateAfter front past s.world_state →
    OnOk r (WorldStateAfter front (reverse (lines_by event (step_in s.world_state.region.shape (peer_state_of old) past event)) ++ past) s'.world_state × (peer_state_of peer_state ≡ peer_state_in (peer_state_of old) past event))) → OnOk r (Happens event s s')
peer_state_happens (Ok v) event s s' old peer_state at items shape after = happened event s s' old peer_state at items shape after
peer_state_happens (Err e) event s s' old peer_state at items shape after = tt

found_at : {A : Type 0} (xs : List A) (p : ℕ) → p < length xs → (x : A) × (slice_get xs p ≡ Some x)
found_at [] p below = absurd (omega arith)
found_at (x ∷ xs) zero below = (x, refl)
found_at (x ∷ xs) (suc p) below = found_at xs p (omega arith)

get_set : {A : Type 0} (xs : List A) (p : ℕ) (x : A) → slice_get xs p ≡ Some x → slice_set xs p x ≡ xs
get_set xs p x is = ap (slice_set xs p) (sym (get_or_from_slice_get xs p x x is)) ∙ set-get_or xs p x

-- An event of the world state alone: a write of a hostile peer.
pub poke_happens : {T E : Type 0} (r : Result T E) (peer word value : ℕ) (s s' : Simulator) → s'.peer_states ≡ s.peer_states → s'.world_state.region.shape ≡ s.world_state.region.shape →
    ((front : List ℕ) (past : List Line) → WorldStateAfter front past s.world_state → OnOk r (WorldStateAfter front (reverse (lines_by (Poked peer word value) (poked_step s.world_state.region.shape peer word value)) ++ past) s'.world_state)) →
    OnOk r (Happens (Poked peer word value) s s')
poke_happens (Ok v) peer word value s s' peer_states shape after = λ world front events there small runs.
    let count = runs.count in
    let old = found_at s.peer_states.items peer (omega arith) in
    happened (Poked peer word value) s s' old.0 old.0 old.1 (ap (λ v. v.items) peer_states ∙ sym (get_set s.peer_states.items peer old.0 old.1)) shape (λ f past a. (after f past a, refl)) world front events there small runs
poke_happens (Err e) peer word value s s' peer_states shape after = tt

-- n turns, and the acts so far

one_more : {A : Type 0} (xs : List A) (n : ℕ) (x : A) → (xs ++ replicate n x) ++ x ∷ [] ≡ xs ++ replicate (n + 1) x
one_more xs n x = append_assoc xs (replicate n x) (x ∷ []) ∙ ap (λ r. xs ++ r) (replicate-append-replicate n 1 x)

pub turn_more : (world : World) (front : List ℕ) (events : List Event) (peer n : ℕ) (s s' : Simulator) → IsPermittedEvent world (TurnTaken peer) → length events + n < MOST_TURNS → Happens (TurnTaken peer) s s' →
    RunsTo world front (events ++ replicate n (TurnTaken peer)) s → RunsTo world front (events ++ replicate (n + 1) (TurnTaken peer)) s'
turn_more world front events peer n s s' there small after_event runs =
    let count = length-append events (replicate n (TurnTaken peer)) in
    let turns = length-replicate n (TurnTaken peer) in
    subst (λ (es : List Event). RunsTo world front es s') (one_more events n (TurnTaken peer)) (after_event world front _ there (omega arith) runs)

act_length : (a : Act) → length (events_of a) ≡ cost a
act_length (act.Publish peer message) = refl
act_length (act.Sample peer from) = refl
act_length (act.Turn peer steps) = length-replicate steps (TurnTaken peer)
act_length (act.Poke peer word value) = refl

-- The events of the acts so far, and of one more.
schedule_more : (acts : List Act) (i : ℕ) (a : Act) → i < length acts → a ≡ get_or acts i a → schedule (take (i + 1) acts) ≡ schedule (take i acts) ++ events_of a
schedule_more acts i a inside is =
    ap (λ (xs : List Act). schedule xs) (take_more acts i a inside ∙ ap (λ (b : Act). take i acts ++ b ∷ []) (sym is)) ∙ flat_map-append events_of (take i acts) (a ∷ []) ∙ ap (λ es. schedule (take i acts) ++ es) (append-nil (events_of a))

pub schedule_length : (acts : List Act) → length (schedule acts) ≡ turns_of acts
schedule_length [] = refl
schedule_length (a ∷ acts) =
    ap length (flat_map-cons events_of a acts) ∙ length-append (events_of a) (flat_map events_of acts) ∙ (rw (act_length a, schedule_length acts) (sym (sum_by-cons cost a acts)))

pub one_act : (world : World) (front : List ℕ) (acts : List Act) (i : ℕ) (a : Act) (s : Simulator) → i < length acts → a ≡ get_or acts i a → RunsTo world front (schedule (take i acts) ++ events_of a) s → RunsTo world front (schedule (take (i + 1) acts)) s
one_act world front acts i a s inside is runs = subst (λ (es : List Event). RunsTo world front es s) (sym (schedule_more acts i a inside is)) runs

take_drop_turns : (acts : List Act) (i : ℕ) → turns_of (take i acts) ≤ turns_of acts
take_drop_turns acts i = let all = sym (sum_by-append cost (take i acts) (drop i acts)) ∙ ap turns_of (take-append-drop i acts) in omega arith

-- The acts so far, with the next one, cost at most as much as all.
pub few_so_far : (acts : List Act) (i : ℕ) (a : Act) → i < length acts → a ≡ get_or acts i a → length (schedule (take i acts)) + cost a ≤ turns_of acts
few_so_far acts i a inside is =
    let more = ap length (schedule_more acts i a inside is) ∙ length-append (schedule (take i acts)) (events_of a) in
    let len = schedule_length (take (i + 1) acts) in
    let first = act_length a in
    let most = take_drop_turns acts (i + 1) in
    omega arith

-- The peer states at the start

-- An element of a list with one more is one of the list, or the last.
last_or : (xs : List sits.PeerState) (x : sits.PeerState) (k : ℕ) (found : sits.PeerState) → slice_get (xs ++ x ∷ []) k ≡ Some found → (P : ℕ → sits.PeerState → Type 0) →
    ((q : ℕ) (s : sits.PeerState) → slice_get xs q ≡ Some s → P q s) → P (length xs) x → P k found
last_or [] x zero found at P all here = subst (λ (s : sits.PeerState). P 0 s) (same_Some x found at) here
last_or [] x (suc k) found at P all here = absurd (cc)
last_or (y ∷ xs) x zero found at P all here = all 0 found at
last_or (y ∷ xs) x (suc k) found at P all here = last_or xs x k found at (λ q s. P (suc q) s) (λ q s is. all (suc q) s is) here

pub one_peer_state : (world : World) (count : ℕ) (peer_states : List sits.PeerState) (peer_state : sits.PeerState) → AreAtStart world count peer_states → peer_state_of peer_state ≡ (initial_state world).peer_states count → AreAtStart world (count + 1) (peer_states ++ peer_state ∷ [])
one_peer_state world count peer_states peer_state start fresh =
    let length_is = start.length_is in
    record {
      length_is = simp length-append (omega arith);
      fresh = λ p found at. last_or peer_states peer_state p found at (λ q s. peer_state_of s ≡ (initial_state world).peer_states q) start.fresh (rw length_is fresh);
    }

-- A simulator at the start.
pub begun : (world : World) (front : List ℕ) (s : Simulator) → IsWorld world → AreAtStart world world.geometry.peers s.peer_states.items → s.world_state.region.shape ≡ world.geometry → WorldStateAfter front [] s.world_state → RunsTo world front [] s
begun world front s is start shape after = record { is_world = is; there = tt; few = omega arith; shape = shape; after = after; count = start.length_is; peer_states = start.fresh }

-- The whole record

-- The text before the lines.
abbrev pub front_of : World → List ℕ
front_of world = line_of_row pieces_of_line (row Head (1 ∷ []) []) ++ spelling world

allowed_nth : (w : World) (acts : List Act) (i : ℕ) (a : Act) → AllByRecursion (IsAllowed w) acts → i < length acts → a ≡ get_or acts i a → IsAllowed w a
allowed_nth w [] i a all inside is = absurd (omega arith)
allowed_nth w (x ∷ acts) zero a all inside is = subst (λ (b : Act). IsAllowed w b) (sym is) all.0
allowed_nth w (x ∷ acts) (suc i) a all inside is = allowed_nth w acts i a all.1 (omega arith) is

-- An act of a world is allowed in it.
pub act_at : (w : World) (i : ℕ) (a : Act) → IsWorld w → i < length w.acts → a ≡ get_or w.acts i a → IsAllowed w a
act_at w i a is inside at = allowed_nth w w.acts i a (recursion_from_All (IsAllowed w) w.acts is.allowed) inside at

-- The record of a simulator that played all acts, with its end.
pub whole_record : (world : World) (i : ℕ) (s : Simulator) → length world.acts ≤ i → RunsTo world (front_of world) (schedule (take i world.acts)) s →
    s.world_state.recorded.text.items ++ line_of_row pieces_of_line (row End (s.world_state.recorded.count ∷ []) []) ≡ record_of world (history world)
whole_record world i s whole runs =
    let past = (history_state_after world (schedule world.acts)).past in
    let all : (history_state_after world (schedule (take i world.acts))).past ≡ past = ap (λ (xs : List Act). (history_state_after world (schedule xs)).past) (take_all i world.acts whole) in
    let text : s.world_state.recorded.text.items ≡ front_of world ++ text_of_lines (reverse past) = runs.after.recorded.text ∙ ap (λ (ls : List Line). front_of world ++ text_of_lines (reverse ls)) all in
    let count : s.world_state.recorded.count ≡ length (reverse past) = runs.after.recorded.count ∙ ap length all ∙ sym (length-reverse past) in
    rw (text, count) refl

-- The events of a world's acts

first_peer : (p n : ℕ) (b : Bool) → (nat_lt p n && b) ≡ true → p < n
first_peer p n b is = grind (arith, nat_tests)

below_of : (p n : ℕ) → nat_lt p n ≡ true → p < n
below_of p n is = grind (arith, nat_tests)

within_of : (k most : ℕ) → (nat_le 1 k && nat_le k most) ≡ true → (1 ≤ k) × (k ≤ most)
within_of k most is = (grind (arith, nat_tests), grind (arith, nat_tests))

turns_there : (w : World) (peer k : ℕ) → peer < w.geometry.peers → AllByRecursion (IsPermittedEvent w) (replicate k (TurnTaken peer))
turns_there w peer zero here = tt
turns_there w peer (suc k) here = (here, turns_there w peer k here)

act_there : (w : World) (a : Act) → IsAllowed w a → AllByRecursion (IsPermittedEvent w) (events_of a)
act_there w (act.Publish peer message) is = ((first_peer peer w.geometry.peers _ is.peer, within_of _ _ is.message), tt)
act_there w (act.Sample peer from) is = ((first_peer peer w.geometry.peers _ is.peer, below_of _ _ is.range), tt)
act_there w (act.Turn peer steps) is = turns_there w peer steps (below_of _ _ is.peer)
act_there w (act.Poke peer word value) is = (first_peer peer w.geometry.peers _ is.peer, tt)

both_there : (P : Event → Type 0) (xs ys : List Event) → AllByRecursion P xs → AllByRecursion P ys → AllByRecursion P (xs ++ ys)
both_there P [] ys all more = more
both_there P (x ∷ xs) ys all more = (all.0, both_there P xs ys all.1 more)

acts_there : (w : World) (acts : List Act) → AllByRecursion (IsAllowed w) acts → AllByRecursion (IsPermittedEvent w) (schedule acts)
acts_there w [] all = tt
acts_there w (a ∷ acts) all = rw flat_map-cons (both_there (IsPermittedEvent w) (events_of a) (schedule acts) (act_there w a all.0) (acts_there w acts all.1))

pub all_there : (w : World) → IsWorld w → AllByRecursion (IsPermittedEvent w) (schedule w.acts)
all_there w is = acts_there w w.acts (recursion_from_All (IsAllowed w) w.acts is.allowed)

pub few_events : (w : World) → IsWorld w → 0 + length (schedule w.acts) ≤ MOST_TURNS
few_events w is = let same = schedule_length w.acts in let most = is.turns in omega arith
