-- Two ends of the worked link enter RUN over sequentially consistent memory, by three Ticks each.
use Rattle.std.proofs.Common.{◌≡◌, ◌≢◌, ℕ, zero, suc, ◌+◌, ◌-◌, ◌<◌, ◌≤◌, true, false, [], refl, sym, ap, ◌∙◌, subst, arith, eq-eqb, ne_eqb}
use Rattle.std.specs.Prelude.{◌==◌, if◌then◌else◌}
use Rattle.link_handshake.specs.declared.Phase.{Phase}
use Rattle.link_handshake.specs.declared.Phase.TheVariants.{Reset, Init, Ready, Run}
use Rattle.link_handshake.specs.declared.Move.{Move}
use Rattle.link_handshake.specs.declared.Move.TheVariants.{Stay, Set, ClearThenSet}
use Rattle.link_handshake.specs.PhaseTable.{phase_move, phase_of_state, state_of}
use Rattle.split_ring.specs.Layout.{queue_size}
use Rattle.call_grammar.specs.Ticks.{EndConfig, tick_marks}
use Rattle.call_grammar.specs.Ends.{End, fresh, with_state, with_marks, end_after}
use Rattle.call_grammar.specs.Calls.{Call, Tick}
use Rattle.call_grammar.specs.Places.{Place, Closed, Clearing, WritingState, ReadingOtherState, first_place, clear_place, tick_place, access_at, next_place, step_at, is_open}
use Rattle.call_grammar.proofs.OfferLists.{yes, no}
use Rattle.link_invariant.specs.LinkConfig.{IsLinkConfig, config_of, IsGivenTo}
use Rattle.link_invariant.specs.Steps.{ReadsMemory, MemoryAfter, OnlyEndChanges}
use Rattle.link_invariant.specs.Runs.{HonestRuns, starts, begins, steps}
use Rattle.weak_orders.specs.Worked.{worked_config}
use Rattle.weak_orders.proofs.Cuts.{after_of, left_so}
use Rattle.weak_orders.proofs.RunsKeepInvariant.{pick}

pub worked_is : IsLinkConfig worked_config
unfolding queue_size
worked_is = record {
  queue = record { known = (omega arith, omega arith); mtu_least = omega arith; mtu_most = omega arith; section = omega arith; fits = refl; one_slot = omega arith };
  words = refl;
  first = omega arith;
}

-- A function with one value replaced.
abbrev pub set : {A : Type 0} → (ℕ → A) → ℕ → A → ℕ → A
set f p x q = if q == p then x else f q

set_there : {A : Type 0} (f : ℕ → A) (p : ℕ) (x : A) (q : ℕ) → q ≢ p → set f p x q ≡ f q
set_there f p x q ne = no (q == p) x (f q) (ne_eqb q p ne)

set_here : {A : Type 0} (f : ℕ → A) (p : ℕ) (x : A) → set f p x p ≡ x
set_here f p x = yes (p == p) x (f p) (eq-eqb p p refl)

changes : (ends : ℕ → End) (places : ℕ → Place) (p : ℕ) (end : End) (place : Place) → OnlyEndChanges ends (set ends p end) places (set places p place) p end place
changes ends places p end place = record {
  end_is = set_here ends p end;
  place_is = set_here places p place;
  ends_stay = λ q ne. set_there ends p end q ne;
  places_stay = λ q ne. set_there places p place q ne;
}

module _ (memory : ℕ → ℕ) (ends : ℕ → End) (places : ℕ → Place) (p : ℕ) (p2 : p < 2) (end : End) (is_end : ends p ≡ end) where
  -- A call begins.
  call : (call : Call) → HonestRuns worked_config memory ends places → IsGivenTo worked_config call → places p ≡ Closed →
      HonestRuns worked_config memory (set ends p end) (set places p (first_place (config_of worked_config p) end call))
  call c run given closed = begins memory ends (set ends p end) places (set places p (first_place (config_of worked_config p) end c)) p c run p2 refl record {
    given = given;
    closed = closed;
    comes = subst (λ (e : End). OnlyEndChanges ends (set ends p end) places (set places p (first_place (config_of worked_config p) end c)) p e (first_place (config_of worked_config p) e c)) (sym is_end)
        (changes ends places p end (first_place (config_of worked_config p) end c));
  }

  -- An end takes a step.
  step : (place : Place) (value : ℕ) → HonestRuns worked_config memory ends places → places p ≡ place → is_open place ≡ true → ReadsMemory memory (access_at (config_of worked_config p) place) value →
      HonestRuns worked_config (after_of p memory (access_at (config_of worked_config p) place)) (set ends p (end_after end (step_at (config_of worked_config p) place value))) (set places p (next_place (config_of worked_config p) place value))
  step place value run at opened met = let config = config_of worked_config p in
      steps memory (after_of p memory (access_at config place)) ends (set ends p (end_after end (step_at config place value))) places (set places p (next_place config place value)) p value run p2 refl record {
        opened = subst (λ (k : Place). is_open k ≡ true) (sym at) opened;
        meets = subst (λ (k : Place). ReadsMemory memory (access_at config k) value) (sym at) met;
        leaves = subst (λ (k : Place). MemoryAfter p memory (access_at config k) (after_of p memory (access_at config place))) (sym at) (left_so p memory (access_at config place));
        comes = subst (λ (k : Place). OnlyEndChanges ends (set ends p (end_after end (step_at config place value))) places (set places p (next_place config place value)) p (end_after (ends p) (step_at config k value)) (next_place config k value)) (sym at)
            (subst (λ (e : End). OnlyEndChanges ends (set ends p (end_after end (step_at config place value))) places (set places p (next_place config place value)) p (end_after e (step_at config place value)) (next_place config place value)) (sym is_end)
            (changes ends places p (end_after end (step_at config place value)) (next_place config place value)));
      }

-- A clear of words that are 0 leaves memory as it is.

-- End p after its clears: only what it wrote last has changed, and it is about to store State.
record Cleared (memory : ℕ → ℕ) (ends : ℕ → End) (places : ℕ → Place) (p state : ℕ) : Type 0 where
  after_ends : ℕ → End
  after_places : ℕ → Place
  run : HonestRuns worked_config memory after_ends after_places
  written : ℕ → ℕ
  comes : OnlyEndChanges ends after_ends places after_places p (record (ends p) { written = written }) (WritingState state)

cleared : (memory : ℕ → ℕ) (p : ℕ) → p < 2 → ((w : ℕ) → 2 ≤ w → memory w ≡ 0) → (more at state : ℕ) → 2 ≤ at → (ends : ℕ → End) (places : ℕ → Place) →
    HonestRuns worked_config memory ends places → places p ≡ clear_place at more state → Cleared memory ends places p state
cleared memory p p2 none zero at state low ends places run e = record {
  after_ends = ends;
  after_places = places;
  run = run;
  written = (ends p).written;
  comes = record { end_is = refl; place_is = e; ends_stay = λ q ne. refl; places_stay = λ q ne. refl };
}
cleared memory p p2 none (suc more) at state low ends places run e =
    let config = config_of worked_config p in let end = end_after (ends p) (step_at config (Clearing at more state) 0) in let next = clear_place (at + 1) more state in
    let ends' = set ends p end in let places' = set places p next in
    let one = steps memory memory ends ends' places places' p 0 run p2 refl record {
      opened = subst (λ (k : Place). is_open k ≡ true) (sym e) refl;
      meets = subst (λ (k : Place). ReadsMemory memory (access_at config k) 0) (sym e) tt;
      leaves = subst (λ (k : Place). MemoryAfter p memory (access_at config k) memory) (sym e) record { here = none at low; neighbour_word = λ w ne. refl };
      comes = subst (λ (k : Place). OnlyEndChanges ends ends' places places' p (end_after (ends p) (step_at config k 0)) (next_place config k 0)) (sym e) (changes ends places p end next);
    } in
    let more' = cleared memory p p2 none more (at + 1) state (omega arith) ends' places' one (set_here places p next) in record {
      after_ends = more'.after_ends;
      after_places = more'.after_places;
      run = more'.run;
      written = more'.written;
      comes = record {
        end_is = more'.comes.end_is ∙ ap (λ (x : End). record x { written = more'.written }) (set_here ends p end);
        place_is = more'.comes.place_is;
        ends_stay = λ q ne. more'.comes.ends_stay q ne ∙ set_there ends p end q ne;
        places_stay = λ q ne. more'.comes.places_stay q ne ∙ set_there places p next q ne;
      };
    }

-- Two ends between two steps: end q is in this phase, and at this place; it has offered no frame.

abbrev pub idle : Phase → (ℕ → ℕ) → End
idle phase written = record { handshake = record { phase = phase; mark = false }; accepted = []; freed = 0; delivered = []; returned = 0; found_none = false; written = written }

pub record EndsAt (phases : ℕ → Phase) (at : ℕ → Place) : Type 0 where
  pub memory : ℕ → ℕ
  pub ends : ℕ → End
  pub places : ℕ → Place
  pub written : ℕ → ℕ → ℕ
  pub run : HonestRuns worked_config memory ends places
  pub none : (w : ℕ) → 2 ≤ w → memory w ≡ 0
  pub states : (q : ℕ) → q < 2 → memory q ≡ state_of (phases q)
  pub ends_are : (q : ℕ) → q < 2 → ends q ≡ idle (phases q) (written q)
  pub places_are : (q : ℕ) → q < 2 → places q ≡ at q

abbrev pub all_closed : ℕ → Place
all_closed q = Closed

saw_none : (end : End) (value : ℕ) (move : Move) → with_marks end (tick_marks value move) ≡ end
saw_none end value Stay = refl
saw_none end value (Set state) = refl
saw_none end value (ClearThenSet state) = refl

module _ (phases : ℕ → Phase) (p : ℕ) (p2 : p < 2) where
  abbrev config : EndConfig
  config = config_of worked_config p

  abbrev move : Move
  move = phase_move (phases p) (state_of (phases (1 - p)))

  o2 : 1 - p < 2
  o2 = omega arith

  apart : 1 - p ≢ p
  apart e = omega arith

  -- A Tick begins, and loads the other's State.
  looks : EndsAt phases all_closed → EndsAt phases (set all_closed p (tick_place config move))
  unfolding after_of
  looks s = let end = idle (phases p) (s.written p) in let h = end.handshake in let value = state_of (phases (1 - p)) in
      let begun = call s.memory s.ends s.places p p2 end (s.ends_are p p2) Tick s.run tt (s.places_are p p2) in
      let ends = set s.ends p end in let places = set s.places p (ReadingOtherState h) in
      let looked = step s.memory ends places p p2 end (set_here s.ends p end) (ReadingOtherState h) value begun (set_here s.places p (ReadingOtherState h)) refl (sym (s.states (1 - p) o2)) in
      let end' = end_after end (step_at config (ReadingOtherState h) value) in record {
        memory = s.memory;
        ends = set ends p end';
        places = set places p (tick_place config move);
        written = s.written;
        run = looked;
        none = s.none;
        states = s.states;
        ends_are = pick p p2 (λ q. set ends p end' q ≡ idle (phases q) (s.written q)) (set_here ends p end' ∙ saw_none end value move)
            (set_there ends p end' (1 - p) apart ∙ (set_there s.ends p end (1 - p) apart ∙ s.ends_are (1 - p) o2));
        places_are = pick p p2 (λ q. set places p (tick_place config move) q ≡ set all_closed p (tick_place config move) q)
            (set_here places p (tick_place config move) ∙ sym (set_here all_closed p (tick_place config move)))
            (set_there places p (tick_place config move) (1 - p) apart ∙ (set_there s.places p (ReadingOtherState h) (1 - p) apart ∙ (s.places_are (1 - p) o2 ∙ sym (set_there all_closed p (tick_place config move) (1 - p) apart))));
      }

  -- The end clears the words of its section.
  clears : (state : ℕ) → EndsAt phases (set all_closed p (clear_place config.own 4096 state)) → EndsAt phases (set all_closed p (WritingState state))
  clears state s = let c = cleared s.memory p p2 s.none 4096 config.own state (omega arith) s.ends s.places s.run (s.places_are p p2 ∙ set_here all_closed p (clear_place config.own 4096 state)) in record {
    memory = s.memory;
    ends = c.after_ends;
    places = c.after_places;
    written = set s.written p c.written;
    run = c.run;
    none = s.none;
    states = s.states;
    ends_are = pick p p2 (λ q. c.after_ends q ≡ idle (phases q) (set s.written p c.written q))
        (c.comes.end_is ∙ (ap (λ (e : End). record e { written = c.written }) (s.ends_are p p2) ∙ ap (idle (phases p)) (sym (set_here s.written p c.written))))
        (c.comes.ends_stay (1 - p) apart ∙ (s.ends_are (1 - p) o2 ∙ ap (idle (phases (1 - p))) (sym (set_there s.written p c.written (1 - p) apart))));
    places_are = pick p p2 (λ q. c.after_places q ≡ set all_closed p (WritingState state) q)
        (c.comes.place_is ∙ sym (set_here all_closed p (WritingState state)))
        (c.comes.places_stay (1 - p) apart ∙ (s.places_are (1 - p) o2 ∙ (set_there all_closed p (clear_place config.own 4096 state) (1 - p) apart ∙ sym (set_there all_closed p (WritingState state) (1 - p) apart))));
  }

  -- The end stores its own State.
  stores : (state : ℕ) → state_of (phase_of_state state) ≡ state → ((written : ℕ → ℕ) → with_state (idle (phases p) written) state ≡ idle (phase_of_state state) written) →
      EndsAt phases (set all_closed p (WritingState state)) → EndsAt (set phases p (phase_of_state state)) all_closed
  unfolding after_of
  stores state named kept s = let end = idle (phases p) (s.written p) in
      let stored = step s.memory s.ends s.places p p2 end (s.ends_are p p2) (WritingState state) 0 s.run (s.places_are p p2 ∙ set_here all_closed p (WritingState state)) refl tt in
      let end' = with_state end state in let memory = λ (w : ℕ). if w == p then state else s.memory w in record {
        memory = memory;
        ends = set s.ends p end';
        places = set s.places p Closed;
        written = s.written;
        run = stored;
        none = λ w le. set_there s.memory p state w (λ e. omega arith) ∙ s.none w le;
        states = pick p p2 (λ q. memory q ≡ state_of (set phases p (phase_of_state state) q))
            (set_here s.memory p state ∙ (sym named ∙ ap state_of (sym (set_here phases p (phase_of_state state)))))
            (set_there s.memory p state (1 - p) apart ∙ (s.states (1 - p) o2 ∙ ap state_of (sym (set_there phases p (phase_of_state state) (1 - p) apart))));
        ends_are = pick p p2 (λ q. set s.ends p end' q ≡ idle (set phases p (phase_of_state state) q) (s.written q))
            (set_here s.ends p end' ∙ (kept (s.written p) ∙ ap (λ (f : Phase). idle f (s.written p)) (sym (set_here phases p (phase_of_state state)))))
            (set_there s.ends p end' (1 - p) apart ∙ (s.ends_are (1 - p) o2 ∙ ap (λ (f : Phase). idle f (s.written (1 - p))) (sym (set_there phases p (phase_of_state state) (1 - p) apart))));
        places_are = pick p p2 (λ q. set s.places p Closed q ≡ Closed) (set_here s.places p Closed)
            (set_there s.places p Closed (1 - p) apart ∙ (s.places_are (1 - p) o2 ∙ set_there all_closed p (WritingState state) (1 - p) apart));
      }

-- The phases of the two ends, before the first Tick and after each one.

abbrev reset_reset : ℕ → Phase
reset_reset q = Reset

abbrev init_reset : ℕ → Phase
init_reset = set reset_reset 0 Init

abbrev init_init : ℕ → Phase
init_init = set init_reset 1 Init

abbrev ready_init : ℕ → Phase
ready_init = set init_init 0 Ready

abbrev ready_ready : ℕ → Phase
ready_ready = set ready_init 1 Ready

abbrev run_ready : ℕ → Phase
run_ready = set ready_ready 0 Run

abbrev pub run_run : ℕ → Phase
run_run = set run_ready 1 Run

begun : EndsAt reset_reset all_closed
begun = record {
  memory = λ w. 0;
  ends = λ q. fresh;
  places = λ q. Closed;
  written = λ q w. 0;
  run = starts (λ w. 0) (λ q. fresh) (λ q. Closed) (λ w. refl) (λ q. refl) (λ q. refl);
  none = λ w le. refl;
  states = λ q q2. refl;
  ends_are = λ q q2. refl;
  places_are = λ q q2. refl;
}

first_tick : EndsAt init_reset all_closed
first_tick = stores reset_reset 0 (omega arith) 1 refl (λ w. refl) (looks reset_reset 0 (omega arith) begun)

second_tick : EndsAt init_init all_closed
second_tick = stores init_reset 1 (omega arith) 1 refl (λ w. refl) (looks init_reset 1 (omega arith) first_tick)

third_tick : EndsAt ready_init all_closed
third_tick = stores init_init 0 (omega arith) 2 refl (λ w. refl) (clears init_init 0 (omega arith) 2 (looks init_init 0 (omega arith) second_tick))

fourth_tick : EndsAt ready_ready all_closed
fourth_tick = stores ready_init 1 (omega arith) 2 refl (λ w. refl) (clears ready_init 1 (omega arith) 2 (looks ready_init 1 (omega arith) third_tick))

fifth_tick : EndsAt run_ready all_closed
fifth_tick = stores ready_ready 0 (omega arith) 3 refl (λ w. refl) (looks ready_ready 0 (omega arith) fourth_tick)

pub both_run : EndsAt run_run all_closed
both_run = stores run_ready 1 (omega arith) 3 refl (λ w. refl) (looks run_ready 1 (omega arith) fifth_tick)
