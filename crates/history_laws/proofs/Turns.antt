-- A turn: if no call is open, the next one begins. Then the peer makes the step at its place.
use Rattle.std.proofs.Common.{◌≡◌, ◌≢◌, ℕ, ◌<◌, true, false, List, [], ◌∷◌, ◌++◌, refl, sym, ◌∙◌, ap, subst, inl, inr, ◌⊎◌, eq-eqb, ne_eqb}
use mathlib.Core.Logic.{dite}
use native.Mathlib.Decide.{ℕ_discrete}
use Rattle.std.specs.Prelude.{◌==◌, if◌then◌else◌, Option, None, reverse, Some}
use Rattle.std.specs.List.{AllByRecursion}
use Rattle.split_ring.specs.declared.steps.Access.{Access}
use Rattle.split_ring.specs.declared.steps.Access.TheVariants as access
use Rattle.scenario_text.specs.Scenario.{World, IsWorld, is_link}
use Rattle.call_grammar.specs.Steps.{Step, step_of, value_given}
use Rattle.call_grammar.specs.Trees.{CallTree, Ended, Does, Reads, Goes}
use Rattle.call_grammar.specs.Ends.{End, end_after}
use Rattle.call_grammar.specs.Calls.{EndConfig, Call, Tick, Offer, Poll, tree_of}
use Rattle.call_grammar.specs.Permitted.{MayDo, IsPermittedTree}
use Rattle.call_grammar.specs.Automatic.{Choice, ChoosesTick, ChoosesOffer, ChoosesPoll, IsFinished, choice_of}
use Rattle.call_grammar.specs.Places.{Place, Closed, first_place, access_at, next_place, step_at, is_open, remaining}
use Rattle.call_grammar.proofs.OfferLists.{yes, no}
use Rattle.call_grammar.proofs.PlacesFollowTrees.{following}
use Rattle.link_invariant.specs.LinkConfig.{IsOffered, LinkConfig}
use Rattle.link_invariant.specs.Steps.{ReadsMemory}
use Rattle.link_invariant.specs.LinkConfig as pair
use Rattle.link_invariant.specs.LinkConfig.{IsGivenTo}
use Rattle.link_invariant.specs.Steps.{OnlyEndChanges}
use Rattle.lawful_history.specs.declared.line.Line.{Line}
use Rattle.lawful_history.specs.declared.line.Line.TheVariants as line
use Rattle.lawful_history.specs.Memory.{last_write}
use Rattle.lawful_history.specs.Sides.{config_of}
use Rattle.lawful_history.specs.EventRecords.{step_lines, turn_lines}
use Rattle.lawful_history.specs.Peers.{Auto, Driver, Waits, Chooses, Storms, Peer, with_choice, chosen, opened_by, opened}
use Rattle.lawful_history.specs.History.{driven_step, driven, step_by, moved_by}
use Rattle.lawful_history.proofs.Left.{HoldsOfOffer, choice_offers}
use Rattle.history_laws.proofs.PermittedEvents.{link_config_of}
use Rattle.history_laws.proofs.LinkPlaces.{Stands, IsQuiet, quiet_lines, stands_alike, ends_alike, BringsNone}
use Rattle.history_laws.proofs.LinkPeers.{config_is}
use Rattle.history_laws.proofs.OwnSteps.{begins_stands, step_stands}
use Rattle.history_laws.proofs.QueuedCalls.{DriverSuits, Suits, opened_suits}

-- One peer's place changed.
pub placed : (ℕ → Place) → ℕ → Place → ℕ → Place
placed places p place q = if q == p then place else places q

pub placed_here : (places : ℕ → Place) (p : ℕ) (place : Place) → placed places p place p ≡ place
unfolding placed
placed_here places p place = yes (p == p) place (places p) (eq-eqb p p refl)

pub placed_beside : (places : ℕ → Place) (p q : ℕ) (place : Place) → q ≢ p → placed places p place q ≡ places q
unfolding placed
placed_beside places p q place ne = no (q == p) place (places q) (ne_eqb q p ne)

-- The result of a turn of an honest link peer: the places after it, where the rest of its call is
-- at its place

pub record Came (world : World) (after : List Line) (after_ends : ℕ → End) (places : ℕ → Place) (p : ℕ) (left : CallTree) : Type 0 where
  pub after_places : ℕ → Place
  pub refines : Stands world after after_ends after_places
  pub here : remaining (pair.config_of (link_config_of world) p) (after_places p) ≡ left
  pub neighbour_word : (q : ℕ) → q ≢ p → after_places q ≡ places q

-- No call is open, or one is.
open_or_closed : (place : Place) → (is_open place ≡ true) ⊎ (place ≡ Closed)
open_or_closed Closed = inr refl
open_or_closed place = inl refl

pub ended_is_closed : (config : EndConfig) (place : Place) → remaining config place ≡ Ended → place ≡ Closed
ended_is_closed config place is = elim (open_or_closed place) [
  | inl opened ↦ let goes = following.comes config place 0 opened in let none : Goes Ended (step_at config place 0) (remaining config (next_place config place 0)) = subst (λ (t : CallTree). Goes t (step_at config place 0) (remaining config (next_place config place 0))) is goes in absurd none
  | inr closed ↦ closed
]

pub goes_is_open : (config : EndConfig) (place : Place) (step : Step) (left : CallTree) → Goes (remaining config place) step left → is_open place ≡ true
goes_is_open config place step left goes = elim (open_or_closed place) [
  | inl opened ↦ opened
  | inr closed ↦ let none : Goes Ended step left = subst (λ (x : Place). Goes (remaining config x) step left) closed goes in absurd none
]

-- A call is opened

-- The place of the peer after a call opens: as before, or the first place of a permitted call.
abbrev OpensAs : World → EndConfig → End → Place → CallTree → Type 0
OpensAs world config end place left = ((remaining config place ≡ left)) ⊎ ((place ≡ Closed) × ((call : Call) × IsGivenTo (link_config_of world) call × (tree_of config end call ≡ left)))

with_choice_opens : (world : World) (config : EndConfig) (peer : Peer) (auto : Auto) (place : Place) (choice : Choice) → place ≡ Closed → remaining config place ≡ peer.left → HoldsOfOffer (IsOffered (link_config_of world)) choice → OpensAs world config peer.end place (with_choice config peer auto choice).left
with_choice_opens world config peer auto place ChoosesTick closed is suits = inr (closed, (Tick, tt, refl))
with_choice_opens world config peer auto place (ChoosesOffer frame) closed is suits = inr (closed, (Offer frame, suits, refl))
with_choice_opens world config peer auto place ChoosesPoll closed is suits = inr (closed, (Poll, tt, refl))
with_choice_opens world config peer auto place IsFinished closed is suits = inl is

chosen_opens : (world : World) (config : EndConfig) (peer : Peer) (place : Place) (driver : Driver) → place ≡ Closed → remaining config place ≡ peer.left → DriverSuits world true driver → OpensAs world config peer.end place (chosen config peer driver).left
chosen_opens world config peer place Waits closed is suits = inl is
chosen_opens world config peer place (Chooses auto) closed is suits =
    with_choice_opens world config peer auto place (choice_of peer.end.handshake.phase auto.round auto.frames auto.delivered auto.expected) closed is (choice_offers (IsOffered (link_config_of world)) peer.end.handshake.phase auto.round auto.frames auto.delivered auto.expected suits.1)
chosen_opens world config peer place (Storms x) closed is suits = inl is

opened_by_opens : (world : World) (config : EndConfig) (peer : Peer) (place : Place) (tree : CallTree) (waiting : List Call) → remaining config place ≡ tree → tree ≡ peer.left → AllByRecursion (IsGivenTo (link_config_of world)) waiting → Suits world true peer →
    OpensAs world config peer.end place (opened_by config peer tree waiting).left
opened_by_opens world config peer place Ended [] at is given s = chosen_opens world config peer place peer.driver (ended_is_closed config place at) (at ∙ is) s.driver
opened_by_opens world config peer place Ended (call ∷ waiting) at is given s = inr (ended_is_closed config place at, (call, given.0, refl))
opened_by_opens world config peer place (Does a marks rest) waiting at is given s = inl (at ∙ is)
opened_by_opens world config peer place (Reads word marks rest) waiting at is given s = inl (at ∙ is)

-- The peer's end stays.
with_choice_end : (config : EndConfig) (peer : Peer) (auto : Auto) (choice : Choice) → (with_choice config peer auto choice).end ≡ peer.end
with_choice_end config peer auto ChoosesTick = refl
with_choice_end config peer auto (ChoosesOffer frame) = refl
with_choice_end config peer auto ChoosesPoll = refl
with_choice_end config peer auto IsFinished = refl

chosen_end : (config : EndConfig) (peer : Peer) (driver : Driver) → (chosen config peer driver).end ≡ peer.end
chosen_end config peer Waits = refl
chosen_end config peer (Chooses auto) = with_choice_end config peer auto (choice_of peer.end.handshake.phase auto.round auto.frames auto.delivered auto.expected)
chosen_end config peer (Storms x) = refl

opened_by_end : (config : EndConfig) (peer : Peer) (tree : CallTree) (waiting : List Call) → (opened_by config peer tree waiting).end ≡ peer.end
opened_by_end config peer Ended [] = chosen_end config peer peer.driver
opened_by_end config peer Ended (call ∷ waiting) = refl
opened_by_end config peer (Does a marks rest) waiting = refl
opened_by_end config peer (Reads word marks rest) waiting = refl

opened_end : (config : EndConfig) (peer : Peer) → (opened config peer).end ≡ peer.end
opened_end config peer = opened_by_end config peer peer.left peer.waiting

-- The places after a call opens.
opens_stands : (world : World) (past : List Line) (ends : ℕ → End) (places : ℕ → Place) (p : ℕ) (left : CallTree) → IsWorld world → p < 2 → is_link world p ≡ true → OpensAs world (pair.config_of (link_config_of world) p) (ends p) (places p) left →
    Stands world past ends places → Came world past ends places p left
opens_stands world past ends places p left is below honest (inl same) s = record { after_places = places; refines = s; here = same; neighbour_word = λ q ne. refl }
opens_stands world past ends places p left is below honest (inr (closed, (call, given, tree))) s =
    let config = pair.config_of (link_config_of world) p in
    let place = first_place config (ends p) call in
    let only : OnlyEndChanges ends ends places (placed places p place) p (ends p) place = record { end_is = refl; place_is = placed_here places p place; ends_stay = λ q ne. refl; places_stay = λ q ne. placed_beside places p q place ne } in
    record {
      after_places = placed places p place;
      refines = begins_stands world past ends ends places (placed places p place) p call is below honest given closed only s;
      here = ap (remaining config) (placed_here places p place) ∙ (following.begins config (ends p) call ∙ tree);
      neighbour_word = λ q ne. placed_beside places p q place ne;
    }

-- The step of a call that is open

-- A read meets the value of its step.
meets_like : (memory : ℕ → ℕ) (a : Access) (value met : ℕ) → value ≡ value_given a met → ReadsMemory memory a value → ReadsMemory memory a met
meets_like memory (access.Read word) value met is m = sym is ∙ m
meets_like memory _ value met is m = tt

going : (world : World) (past device : List Line) (ends after_ends : ℕ → End) (places : ℕ → Place) (p : ℕ) (step : Step) (left : CallTree) → IsWorld world → p < 2 → is_link world p ≡ true → AllByRecursion IsQuiet device → BringsNone step.access device →
    Goes (remaining (pair.config_of (link_config_of world) p) (places p)) step left → ReadsMemory (last_write past) step.access step.value →
    after_ends p ≡ end_after (ends p) step → ((q : ℕ) → q ≢ p → after_ends q ≡ ends q) → Stands world past ends places → Came world (reverse (step_lines p step device) ++ past) after_ends places p left
going world past device ends after_ends places p step left is below honest quiet none goes met end_is ends_stay s =
    let config = pair.config_of (link_config_of world) p in
    let place = places p in
    let g = following.goes config place step left goes in
    let value = g.0 in
    let next = next_place config place value in
    let access_is : step.access ≡ access_at config place = ap (λ (x : Step). x.access) g.1 in
    let value_is : step.value ≡ value_given (access_at config place) value = ap (λ (x : Step). x.value) g.1 in
    let met_here : ReadsMemory (last_write past) (access_at config place) value = meets_like (last_write past) (access_at config place) step.value value value_is (subst (λ (a : Access). ReadsMemory (last_write past) a step.value) access_is met) in
    let only : OnlyEndChanges ends after_ends places (placed places p next) p (end_after (ends p) (step_at config place value)) next =
    record { end_is = end_is ∙ ap (end_after (ends p)) g.1; place_is = placed_here places p next; ends_stay = ends_stay; places_stay = λ q ne. placed_beside places p q next ne } in
    let refines = step_stands world past device ends after_ends places (placed places p next) p value is below honest quiet (subst (λ (a : Access). BringsNone a device) access_is none) (goes_is_open config place step left goes) met_here only s in
    record {
      after_places = placed places p next;
      refines = subst (λ (x : Step). Stands world (reverse (step_lines p x device) ++ past) after_ends (placed places p next)) (sym g.1) refines;
      here = ap (remaining config) (placed_here places p next) ∙ sym g.2;
      neighbour_word = λ q ne. placed_beside places p q next ne;
    }

does_meet : (config : EndConfig) (memory : ℕ → ℕ) (a : Access) → MayDo config a → ReadsMemory memory a (value_given a 0)
does_meet config memory (access.Read word) may = absurd may
does_meet config memory _ may = tt

-- The turn

idle_driver : (world : World) (p : ℕ) (peer : Peer) (driver : Driver) → DriverSuits world true driver → (driven_step world p driver ≡ None) × (driven peer driver ≡ peer)
idle_driver world p peer Waits suits = (refl, refl)
idle_driver world p peer (Chooses auto) suits = (refl, refl)
idle_driver world p peer (Storms x) suits = absurd (let f : true ≡ false = suits in cc)

moves_stands : (world : World) (past : List Line) (device : Option Step → List Line) (ends after_ends : ℕ → End) (places : ℕ → Place) (p : ℕ) (peer : Peer) (tree : CallTree) → IsWorld world → p < 2 → is_link world p ≡ true → ((went : Option Step) → AllByRecursion IsQuiet (device went)) → ((step : Step) → BringsNone step.access (device (Some step))) →
    IsPermittedTree (pair.config_of (link_config_of world) p) tree → remaining (pair.config_of (link_config_of world) p) (places p) ≡ tree → tree ≡ peer.left → peer.end ≡ ends p → DriverSuits world true peer.driver → after_ends p ≡ (moved_by peer tree past).end →
    ((q : ℕ) → q ≢ p → after_ends q ≡ ends q) → Stands world past ends places → Came world (reverse (turn_lines p (step_by world p peer.driver tree past) (device (step_by world p peer.driver tree past))) ++ past) after_ends places p (moved_by peer tree past).left
moves_stands world past device ends after_ends places p peer Ended is below honest quiet brought stays at left_is end_is suits after_is ends_stay s =
    let idle = idle_driver world p peer peer.driver suits in
    let lines = line.Idle p ∷ device None in
    let alike = quiet_lines world lines past (record { apart = refl; silent = refl; passes = refl }, quiet None) in
    let same : (q : ℕ) → q < 2 → is_link world q ≡ true → after_ends q ≡ ends q = λ q below' honest'. end_same q in
    let refines = ends_alike world (reverse lines ++ past) ends after_ends places same (stands_alike world past (reverse lines ++ past) ends places alike s) in
    record {
      after_places = places;
      refines = subst (λ (went : Option Step). Stands world (reverse (turn_lines p went (device went)) ++ past) after_ends places) (sym idle.0) refines;
      here = at ∙ (left_is ∙ ap (λ (x : Peer). x.left) (sym idle.1));
      neighbour_word = λ q ne. refl;
    }
  where
    end_same : (q : ℕ) → after_ends q ≡ ends q
    end_same q = dite (ℕ_discrete q p)
        (λ e. subst (λ (k : ℕ). after_ends k ≡ ends k) (sym e) (after_is ∙ (ap (λ (x : Peer). x.end) (idle_driver world p peer peer.driver suits).1 ∙ end_is)))
        (λ ne. ends_stay q ne)
moves_stands world past device ends after_ends places p peer (Does a marks rest) is below honest quiet brought stays at left_is end_is suits after_is ends_stay s =
    let config = pair.config_of (link_config_of world) p in
    let step = step_of a 0 marks in
    going world past (device (Some step)) ends after_ends places p step rest is below honest (quiet (Some step)) (brought step) (subst (λ (t : CallTree). Goes t step rest) (sym at) (refl, refl)) (does_meet config (last_write past) a stays.0) (after_is ∙ ap (λ (e : End). end_after e step) end_is) ends_stay s
moves_stands world past device ends after_ends places p peer (Reads word marks rest) is below honest quiet brought stays at left_is end_is suits after_is ends_stay s =
    let config = pair.config_of (link_config_of world) p in
    let value = last_write past word in
    let step = step_of (access.Read word) value (marks value) in
    going world past (device (Some step)) ends after_ends places p step (rest value) is below honest (quiet (Some step)) (brought step) (subst (λ (t : CallTree). Goes t step (rest value)) (sym at) (value, refl, refl)) refl (after_is ∙ ap (λ (e : End). end_after e step) end_is) ends_stay s

-- The turn of an honest link peer with the link's configuration.
turn_as : (world : World) (past : List Line) (device : Option Step → List Line) (ends after_ends : ℕ → End) (places : ℕ → Place) (p : ℕ) (peer : Peer) (config : EndConfig) → config ≡ pair.config_of (link_config_of world) p → IsWorld world → p < 2 → is_link world p ≡ true → ((went : Option Step) → AllByRecursion IsQuiet (device went)) → ((step : Step) → BringsNone step.access (device (Some step))) →
    IsPermittedTree config (opened config peer).left → remaining config (places p) ≡ peer.left → peer.end ≡ ends p → Suits world true peer → after_ends p ≡ (moved_by (opened config peer) (opened config peer).left past).end →
    ((q : ℕ) → q ≢ p → after_ends q ≡ ends q) → Stands world past ends places →
    Came world (reverse (turn_lines p (step_by world p (opened config peer).driver (opened config peer).left past) (device (step_by world p (opened config peer).driver (opened config peer).left past))) ++ past) after_ends places p (moved_by (opened config peer) (opened config peer).left past).left
turn_as world past device ends after_ends places p peer config config_is' is below honest quiet brought stays at end_is suits after_is ends_stay s =
    let now = opened config peer in
    let opens : OpensAs world config peer.end (places p) now.left = opened_by_opens world config peer (places p) peer.left peer.waiting at refl suits.waiting suits in
    let opens_here : OpensAs world (pair.config_of (link_config_of world) p) (ends p) (places p) now.left = subst (λ (e : End). OpensAs world (pair.config_of (link_config_of world) p) e (places p) now.left) end_is (subst (λ (w : EndConfig). OpensAs world w peer.end (places p) now.left) config_is' opens) in
    let first = opens_stands world past ends places p now.left is below honest opens_here s in
    let came = moves_stands world past device ends after_ends first.after_places p now now.left is below honest quiet brought (subst (λ (w : EndConfig). IsPermittedTree w now.left) config_is' stays) first.here refl (opened_end config peer ∙ end_is) (opened_suits world config peer true suits).driver after_is ends_stay first.refines in
    record { after_places = came.after_places; refines = came.refines; here = came.here; neighbour_word = λ q ne. came.neighbour_word q ne ∙ first.neighbour_word q ne }

pub turn_stands : (world : World) (past : List Line) (device : Option Step → List Line) (ends after_ends : ℕ → End) (places : ℕ → Place) (p : ℕ) (peer : Peer) → IsWorld world → p < 2 → is_link world p ≡ true → ((went : Option Step) → AllByRecursion IsQuiet (device went)) → ((step : Step) → BringsNone step.access (device (Some step))) →
    IsPermittedTree (config_of world p) (opened (config_of world p) peer).left → remaining (pair.config_of (link_config_of world) p) (places p) ≡ peer.left → peer.end ≡ ends p → Suits world true peer →
    after_ends p ≡ (moved_by (opened (config_of world p) peer) (opened (config_of world p) peer).left past).end → ((q : ℕ) → q ≢ p → after_ends q ≡ ends q) → Stands world past ends places →
    Came world (reverse (turn_lines p (step_by world p (opened (config_of world p) peer).driver (opened (config_of world p) peer).left past) (device (step_by world p (opened (config_of world p) peer).driver (opened (config_of world p) peer).left past))) ++ past) after_ends places p (moved_by (opened (config_of world p) peer) (opened (config_of world p) peer).left past).left
turn_stands world past device ends after_ends places p peer is below honest quiet brought stays at end_is suits after_is ends_stay s =
    let e = config_is world p below in
    turn_as world past device ends after_ends places p peer (config_of world p) e is below honest quiet brought stays (subst (λ (w : EndConfig). remaining w (places p) ≡ peer.left) (sym e) at) end_is suits after_is ends_stay s
