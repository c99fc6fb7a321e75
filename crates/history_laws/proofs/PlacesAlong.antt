-- Along the computed history the link peers are at the places that their rows lead to.
use Rattle.std.proofs.Common.{◌≡◌, ◌≢◌, ℕ, ◌<◌, Bool, true, false, List, [], ◌∷◌, ◌++◌, length, refl, sym, ◌∙◌, ap, subst, arith, inl, inr, ◌⊎◌}
use mathlib.Core.Logic.{dite}
use native.Mathlib.Decide.{ℕ_discrete}
use Rattle.std.specs.Prelude.{◌==◌, nat_lt, reverse}
use Rattle.std.specs.List.{AllByRecursion}
use Rattle.std.proofs.lemmas.List.{reverse-reverse}
use Rattle.scenario_text.specs.Scenario.{World, IsWorld, is_link}
use Rattle.scenario_text.proofs.ActNumbers.{link_below}
use Rattle.call_grammar.specs.Ends.{End, after_reset}
use Rattle.call_grammar.specs.Places.{Place, Closed, remaining}
use Rattle.link_machine.specs.LinkMachine.{initial_side}
use Rattle.call_grammar.proofs.OfferLists.{decide}
use Rattle.call_grammar.proofs.CallsArePermitted.{reaching}
use Rattle.link_invariant.specs.LinkConfig as pair
use Rattle.link_invariant.specs.Steps.{OnlyEndChanges}
use Rattle.link_invariant.specs.Sides.{SideIs}
use Rattle.link_invariant.proofs.LinkInvariantKept.{whole_kept}
use Rattle.link_invariant.proofs.RowsKept.{steps_follow_rows}
use Rattle.lawful_history.specs.declared.line.Line.{Line}
use Rattle.lawful_history.specs.declared.line.Line.TheVariants as line
use Rattle.lawful_history.specs.Schedule.{Event, CallQueued, AutoStarted, StormStarted, TurnTaken, RegionAccessed, DeviceReset, DeviceAccessed, InterruptDropped, InterruptRepeated, event_peer, schedule}
use Rattle.lawful_history.specs.Sides.{config_of}
use Rattle.lawful_history.specs.Peers.{Peer, Driver, Chooses, at_start, with_call_by}
use Rattle.call_grammar.specs.Calls.{Call, Offer}
use Rattle.lawful_history.specs.Device.{device_lines, step_interrupts}
use Rattle.lawful_history.specs.History.{HistoryState, peer_at, step_of_event, peer_after, after_event, run, initial_state, history}
use Rattle.lawful_history.specs.Lawful.{IsLawful}
use Rattle.lawful_history.proofs.EventsArePermitted.{IsPermittedEvent, there_below, all_there}
use Rattle.lawful_history.proofs.Unique.{has_one_history}
use Rattle.lawful_history.proofs.Exists.{Good, good_on, good_at_first, has_sections, opened_fits, peer_same, peer_other, at_beginning, stays_on, history_is_lawful}
use Rattle.history_laws.specs.Rows.{EachLine, KeepsRows, HistoriesRunTheMachine}
use Rattle.history_laws.proofs.PermittedEvents.{link_config_of, IsProper, all_proper}
use Rattle.history_laws.proofs.LinkPlaces.{Fine, Stands, ends_alike, device_quiet, Settled, step_quiet, step_brings}
use Rattle.history_laws.proofs.OwnSteps.{own_reset_stands}
use Rattle.history_laws.proofs.Armed.{ArmedIs}
use Rattle.link_invariant.specs.Fields.{AvailEvent}
use Rattle.link_invariant.specs.LinkConfig.{fields}
use Rattle.history_laws.proofs.QueuedCalls.{Suits, event_suits, starts_suit}
use Rattle.history_laws.proofs.Turns.{Came, placed, placed_here, placed_beside, turn_stands}
use Rattle.history_laws.proofs.OtherActions.{after_first, quiet_stands, other_turn_stands, acted_stands, other_reset_stands}

abbrev pub ends_of : HistoryState → ℕ → End
ends_of so_far p = (peer_at so_far p).end

-- The invariant of a moment.
pub record Ran (world : World) (so_far : HistoryState) : Type 0 where
  pub good : Good world so_far
  pub places : ℕ → Place
  pub refines : Stands world so_far.past (ends_of so_far) places
  pub left : (p : ℕ) → p < 2 → is_link world p ≡ true → remaining (pair.config_of (link_config_of world) p) (places p) ≡ (peer_at so_far p).left
  pub suits : (p : ℕ) → Suits world (is_link world p) (peer_at so_far p)

pub two_links : (world : World) (p : ℕ) → is_link world p ≡ true → p < 2
two_links world p is = link_below p _ is

-- The invariant after an event

module _ (world : World) (so_far : HistoryState) (event : Event) (is : IsWorld world) (there : IsPermittedEvent world event) (proper : IsProper world event) (ran : Ran world so_far) where
  below : event_peer event < length so_far.peers
  below = let few = there_below world event there in let count = ran.good.count in omega arith

  good_after : Good world (after_event world so_far event)
  good_after = good_on reaching world so_far event is there ran.good

  suits_after : (q : ℕ) → Suits world (is_link world q) (peer_at (after_event world so_far event) q)
  suits_after q = stays_on (λ k x. Suits world (is_link world k) x) world so_far event below (event_suits world (peer_at so_far (event_peer event)) so_far.past event proper (ran.suits (event_peer event))) q (event_peer event == q) refl (ran.suits q)

  end_here : (peer_at (after_event world so_far event) (event_peer event)).end ≡ (peer_after world so_far event).end
  end_here = ap (λ (x : Peer). x.end) (peer_same world so_far event below)

  end_beside : (q : ℕ) → q ≢ event_peer event → (peer_at (after_event world so_far event) q).end ≡ (peer_at so_far q).end
  end_beside q ne = ap (λ (x : Peer). x.end) (peer_other world so_far event q ne)

  left_here : (places : ℕ → Place) → remaining (pair.config_of (link_config_of world) (event_peer event)) (places (event_peer event)) ≡ (peer_after world so_far event).left → (q : ℕ) → q ≡ event_peer event →
      remaining (pair.config_of (link_config_of world) q) (places q) ≡ (peer_at (after_event world so_far event) q).left
  left_here places at q e = subst (λ (k : ℕ). remaining (pair.config_of (link_config_of world) k) (places k) ≡ (peer_at (after_event world so_far event) k).left) (sym e) (at ∙ ap (λ (x : Peer). x.left) (sym (peer_same world so_far event below)))

  left_beside : (places : ℕ → Place) (q : ℕ) → q ≢ event_peer event → places q ≡ ran.places q → q < 2 → is_link world q ≡ true → remaining (pair.config_of (link_config_of world) q) (places q) ≡ (peer_at (after_event world so_far event) q).left
  left_beside places q ne same below' honest = ap (remaining (pair.config_of (link_config_of world) q)) same ∙ (ran.left q below' honest ∙ ap (λ (x : Peer). x.left) (sym (peer_other world so_far event q ne)))

  -- The peer of the event moves to another place.
  came_ran : Came world (after_event world so_far event).past (ends_of (after_event world so_far event)) ran.places (event_peer event) (peer_after world so_far event).left → Ran world (after_event world so_far event)
  came_ran c = record {
    good = good_after;
    places = c.after_places;
    refines = c.refines;
    left = λ q below' honest. dite (ℕ_discrete q (event_peer event)) (λ e. left_here c.after_places c.here q e) (λ ne. left_beside c.after_places q ne (c.neighbour_word q ne) below' honest);
    suits = suits_after;
  }

  -- The peer of the event stays at its place, if it is an honest link peer.
  stays_ran : (is_link world (event_peer event) ≡ true → ((peer_after world so_far event).end ≡ (peer_at so_far (event_peer event)).end) × ((peer_after world so_far event).left ≡ (peer_at so_far (event_peer event)).left)) →
      Stands world (after_event world so_far event).past (ends_of so_far) ran.places → Ran world (after_event world so_far event)
  stays_ran still s = record {
    good = good_after;
    places = ran.places;
    refines = ends_alike world (after_event world so_far event).past (ends_of so_far) (ends_of (after_event world so_far event)) ran.places (λ q below' honest. dite (ℕ_discrete q (event_peer event)) (λ e. end_still q e honest) (λ ne. end_beside q ne)) s;
    left = λ q below' honest. dite (ℕ_discrete q (event_peer event)) (λ e. left_still q e below' honest) (λ ne. left_beside ran.places q ne refl below' honest);
    suits = suits_after;
  }
    where
      end_still : (q : ℕ) → q ≡ event_peer event → is_link world q ≡ true → ends_of (after_event world so_far event) q ≡ ends_of so_far q
      end_still q e honest = subst (λ (k : ℕ). ends_of (after_event world so_far event) k ≡ ends_of so_far k) (sym e) (end_here ∙ (still (ap (is_link world) (sym e) ∙ honest)).0)

      left_still : (q : ℕ) → q ≡ event_peer event → q < 2 → is_link world q ≡ true → remaining (pair.config_of (link_config_of world) q) (ran.places q) ≡ (peer_at (after_event world so_far event) q).left
      left_still q e below' honest =
          let honest_p : is_link world (event_peer event) ≡ true = ap (is_link world) (sym e) ∙ honest in
          left_here ran.places (ran.left (event_peer event) (two_links world (event_peer event) honest_p) honest_p ∙ sym (still honest_p).1) q e

asked_still : (peer : Peer) (driver : Driver) (call : Call) → ((with_call_by peer driver call).end ≡ peer.end) × ((with_call_by peer driver call).left ≡ peer.left)
asked_still peer (Chooses auto) (Offer frame) = (refl, refl)
asked_still peer driver call = (refl, refl)

not_honest : {A : Type 0} → (b : Bool) → b ≡ false → b ≡ true → A
not_honest b is_none is_one = let f : false ≡ true = sym is_none ∙ is_one in absurd (cc)

-- A turn.
turned_ran : (world : World) (so_far : HistoryState) (p : ℕ) → IsWorld world → IsPermittedEvent world (TurnTaken p) → (ran : Ran world so_far) → (is_link world p ≡ true) ⊎ (is_link world p ≡ false) → Ran world (after_event world so_far (TurnTaken p))
turned_ran world so_far p is there ran (inl honest) =
    let event = TurnTaken p in
    let peer = peer_at so_far p in
    let device = step_interrupts world so_far.past so_far.losses p in
    let stays = (opened_fits reaching (config_of world p) peer (has_sections world p is) (ran.good.fits p)).stays in
    let two = two_links world p honest in
    came_ran world so_far event is there tt ran
    (turn_stands world so_far.past device (ends_of so_far) (ends_of (after_event world so_far event)) ran.places p peer is two honest (step_quiet world so_far.past so_far.losses p) (step_brings world so_far.past so_far.losses p) stays (ran.left p two honest) refl
    (subst (λ (b : Bool). Suits world b peer) honest (ran.suits p)) (end_here world so_far event is there tt ran) (end_beside world so_far event is there tt ran) ran.refines)
turned_ran world so_far p is there ran (inr no_link) =
    let event = TurnTaken p in
    let device = device_lines world so_far.past so_far.losses event (step_of_event world so_far event) in
    stays_ran world so_far event is there tt ran (not_honest (is_link world p) no_link)
    (other_turn_stands world so_far.past device (ends_of so_far) ran.places p (peer_at so_far p) is (there_below world event there) no_link (device_quiet world so_far.past so_far.losses event (step_of_event world so_far event)) (ran.suits p)
    (good_after world so_far event is there tt ran).law ran.refines)

-- A device reset.
reset_ran : (world : World) (so_far : HistoryState) (p : ℕ) → IsWorld world → IsPermittedEvent world (DeviceReset p) → (ran : Ran world so_far) → (is_link world p ≡ true) ⊎ (is_link world p ≡ false) → Ran world (after_event world so_far (DeviceReset p))
reset_ran world so_far p is there ran (inl honest) =
    let event = DeviceReset p in
    let device = device_lines world so_far.past so_far.losses event (step_of_event world so_far event) in
    let after_ends = ends_of (after_event world so_far event) in
    let two = two_links world p honest in
    let places = placed ran.places p Closed in
    let only : OnlyEndChanges (ends_of so_far) after_ends ran.places places p (after_reset (ends_of so_far p)) Closed =
    record { end_is = end_here world so_far event is there tt ran; place_is = placed_here ran.places p Closed; ends_stay = end_beside world so_far event is there tt ran; places_stay = λ q ne. placed_beside ran.places p q Closed ne } in
    came_ran world so_far event is there tt ran record {
      after_places = places;
      refines = after_first world (line.Reset p) device so_far.past after_ends places (device_quiet world so_far.past so_far.losses event (step_of_event world so_far event)) (own_reset_stands world so_far.past (ends_of so_far) after_ends ran.places places p is two honest only ran.refines);
      here = ap (remaining (pair.config_of (link_config_of world) p)) (placed_here ran.places p Closed);
      neighbour_word = λ q ne. placed_beside ran.places p q Closed ne;
    }
reset_ran world so_far p is there ran (inr no_link) =
    let event = DeviceReset p in
    let device = device_lines world so_far.past so_far.losses event (step_of_event world so_far event) in
    stays_ran world so_far event is there tt ran (not_honest (is_link world p) no_link)
    (other_reset_stands world so_far.past device (ends_of so_far) ran.places p is (there_below world event there) no_link (device_quiet world so_far.past so_far.losses event (step_of_event world so_far event)) ran.refines)

-- An event without a step.
plain_stands : (world : World) (so_far : HistoryState) (event : Event) (places : ℕ → Place) → Stands world so_far.past (ends_of so_far) places →
    Stands world (reverse (device_lines world so_far.past so_far.losses event (step_of_event world so_far event)) ++ so_far.past) (ends_of so_far) places
plain_stands world so_far event places s = quiet_stands world (device_lines world so_far.past so_far.losses event (step_of_event world so_far event)) so_far.past (ends_of so_far) places (device_quiet world so_far.past so_far.losses event (step_of_event world so_far event)) s

pub ran_on : (world : World) (so_far : HistoryState) (event : Event) → IsWorld world → IsPermittedEvent world event → IsProper world event → Ran world so_far → Ran world (after_event world so_far event)
ran_on world so_far (CallQueued p call) is there proper ran = stays_ran world so_far (CallQueued p call) is there proper ran (λ _. asked_still (peer_at so_far p) (peer_at so_far p).driver call) (plain_stands world so_far (CallQueued p call) ran.places ran.refines)
ran_on world so_far (AutoStarted p expected) is there proper ran = stays_ran world so_far (AutoStarted p expected) is there proper ran (λ _. (refl, refl)) (plain_stands world so_far (AutoStarted p expected) ran.places ran.refines)
ran_on world so_far (StormStarted p seed) is there proper ran = stays_ran world so_far (StormStarted p seed) is there proper ran (λ _. (refl, refl)) (plain_stands world so_far (StormStarted p seed) ran.places ran.refines)
ran_on world so_far (TurnTaken p) is there proper ran = turned_ran world so_far p is there ran (decide (is_link world p))
ran_on world so_far (RegionAccessed p a) is there proper ran =
    let event = RegionAccessed p a in
    let device = device_lines world so_far.past so_far.losses event (step_of_event world so_far event) in
    stays_ran world so_far event is there proper ran (λ _. (refl, refl))
    (acted_stands world so_far.past device (ends_of so_far) ran.places p a is (there_below world event there) proper (device_quiet world so_far.past so_far.losses event (step_of_event world so_far event)) (good_after world so_far event is there proper ran).law ran.refines)
ran_on world so_far (DeviceReset p) is there proper ran = reset_ran world so_far p is there ran (decide (is_link world p))
ran_on world so_far (DeviceAccessed p a) is there proper ran = stays_ran world so_far (DeviceAccessed p a) is there proper ran (λ _. (refl, refl)) (plain_stands world so_far (DeviceAccessed p a) ran.places ran.refines)
ran_on world so_far (InterruptDropped p) is there proper ran = stays_ran world so_far (InterruptDropped p) is there proper ran (λ _. (refl, refl)) (plain_stands world so_far (InterruptDropped p) ran.places ran.refines)
ran_on world so_far (InterruptRepeated p vector) is there proper ran = stays_ran world so_far (InterruptRepeated p vector) is there proper ran (λ _. (refl, refl)) (plain_stands world so_far (InterruptRepeated p vector) ran.places ran.refines)

-- Along all events

pub run_ran : (world : World) (events : List Event) (so_far : HistoryState) → IsWorld world → AllByRecursion (IsPermittedEvent world) events → AllByRecursion (IsProper world) events → Ran world so_far → Ran world (run world events so_far)
run_ran world [] so_far is there proper ran = ran
run_ran world (event ∷ events) so_far is there proper ran = run_ran world events (after_event world so_far event) is there.1 proper.1 (ran_on world so_far event is there.0 proper.0 ran)

pub ran_at_first : (world : World) → Ran world (initial_state world)
ran_at_first world = record {
  good = good_at_first world;
  places = λ p. Closed;
  refines = record {
    holds = whole_kept.starts (link_config_of world) (is_link world) (λ at. 0) (ends_of (initial_state world)) (λ p. Closed) (λ w. refl) (λ p. ap (λ (x : Peer). x.end) (start p)) (λ p. refl);
    sides = λ p below honest. subst (λ (x : Peer). SideIs x.end Closed initial_side) (sym (start p)) steps_follow_rows.starts;
    states = λ p below. refl;
    reads = λ p below honest. refl;
    unrung = λ p below honest. λ unrung. unrung;
    armed = λ has p below honest. subst (λ (x : Peer). ArmedIs (fields (link_config_of world) (λ at. 0) p AvailEvent) x.end Closed) (sym (start p)) (λ ready. cc, λ run none. cc);
    settled = tt;
    fine = tt;
  };
  left = λ p below honest. ap (λ (x : Peer). x.left) (sym (start p));
  suits = λ p. subst (λ (x : Peer). Suits world (is_link world p) x) (sym (start p)) (starts_suit world (is_link world p));
}
  where
    start : (p : ℕ) → peer_at (initial_state world) p ≡ at_start
    start p = at_beginning world p (nat_lt p world.geometry.peers) refl

pub history_ran : (world : World) → IsWorld world → Ran world (run world (schedule world.acts) (initial_state world))
history_ran world is = run_ran world (schedule world.acts) (initial_state world) is (all_there world is) (all_proper world is) (ran_at_first world)

-- A property of the lines of the computed history is a property of every lawful one.
pub lawful_past : (world : World) (lines : List Line) → IsWorld world → IsLawful world lines → reverse lines ≡ (run world (schedule world.acts) (initial_state world)).past
lawful_past world lines is lawful = ap reverse (has_one_history world lines (history world) lawful (history_is_lawful reaching world is)) ∙ reverse-reverse (run world (schedule world.acts) (initial_state world)).past

pub all_fine : (world : World) (lines : List Line) → IsWorld world → IsLawful world lines → EachLine (Fine world) (reverse lines)
all_fine world lines is lawful = subst (λ (past : List Line). EachLine (Fine world) past) (sym (lawful_past world lines is lawful)) (history_ran world is).refines.fine

pub all_settled : (world : World) (lines : List Line) → IsWorld world → IsLawful world lines → Settled world (reverse lines)
all_settled world lines is lawful = subst (λ (past : List Line). Settled world past) (sym (lawful_past world lines is lawful)) (history_ran world is).refines.settled

rows_of : (world : World) (past : List Line) → EachLine (Fine world) past → KeepsRows world past
rows_of world [] fine = tt
rows_of world (line ∷ past) fine = (fine.0.0, rows_of world past fine.1)

pub histories_run_the_machine : HistoriesRunTheMachine
histories_run_the_machine world lines is lawful = rows_of world (reverse lines) (all_fine world lines is lawful)
