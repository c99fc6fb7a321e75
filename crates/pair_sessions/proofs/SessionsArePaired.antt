-- Runs of two honest ends with their session words are runs of the link machine. Its logs are those
-- of the numbers, and the numbers are paired.
use Rattle.std.proofs.Common.{◌≡◌, ◌≢◌, ℕ, ◌+◌, ◌-◌, ◌<◌, ◌≤◌, ◌⊎◌, inl, inr, ⊎_elim, true, false, List, [], ◌∷◌, ◌++◌, map, refl, sym, ap, ◌∙◌, subst, arith, eq-eqb, ne_eqb}
use mathlib.Core.Logic.{dite}
use native.Mathlib.Decide.{ℕ_discrete}
use Rattle.std.specs.Prelude.{◌==◌, if◌then◌else◌, Option, Some, None}
use Rattle.split_ring.specs.declared.steps.Access.{Access}
use Rattle.split_ring.specs.declared.steps.Access.TheVariants as access
use Rattle.split_ring.specs.Layout.{Sizes}
use Rattle.link_handshake.specs.declared.Phase.{Phase}
use Rattle.link_handshake.specs.declared.Phase.TheVariants.{Reset, Init, Ready}
use Rattle.link_handshake.specs.PhaseTable.{state_of}
use Rattle.call_grammar.specs.Steps.{Mark}
use Rattle.call_grammar.specs.Rows.{MovesTo}
use Rattle.call_grammar.specs.Ends.{End, fresh, after_reset}
use Rattle.call_grammar.specs.Places.{Place, Closed, WritingState, first_place, access_at, step_at}
use Rattle.link_machine.specs.LinkMachine.{Side, initial_side, SideEvent, Gave, Wrote, Marked, WasReset, Row, Ended, Log, no_sessions, accepted_in, ended_with, log_after, MachineRuns, AreBeginnings, CarriedFall, DeliversInOrder}
use Rattle.link_machine.specs.LinkMachine as machine
use Rattle.link_machine.proofs.DeliversInOrder.{machine as machine_delivers, SawLow, SawHigh, Attends, Begins, Half, Kind, falls_to, inits, opens, runs, sees, accepts, delivers, counts, table, kind_of, half_of}
use Rattle.call_grammar.proofs.OfferLists.{yes, no}
use Rattle.link_invariant.specs.LinkConfig.{LinkConfig, IsLinkConfig, config_of}
use Rattle.link_invariant.specs.Steps.{OnlyEndChanges}
use Rattle.link_invariant.specs.Sides.{side_events_of, side_events_by, FollowsRows, CallIs, SideIs}
use Rattle.link_invariant.specs.Runs.{HonestRuns}
use Rattle.link_invariant.specs.Runs as honest
use Rattle.link_invariant.proofs.RowsKept.{steps_follow_rows}
use Rattle.link_invariant.proofs.RunsKept.{runs_keep_invariant, Stepped, row_step, rows_on, side_like}
use Rattle.pair_sessions.specs.Numbers.{Numbers, no_numbers, number_of, own_side, numbers_after, numbers_reset, with_stored, with_loaded, IsNumbered, WordIs, OnlyNumbers, NumberedRuns, starts, begins, steps, resets, others, stores, loads, IsPaired, SessionsArePaired}
use Rattle.pair_sessions.proofs.SessionNumbers.{state_in, state_at, clash, low_writes, word_step, word_reset, word_stored, word_like}

-- Marks leave the log, and a State step is an event

marks_step : (sizes : Sizes) (p : ℕ) (p2 : p < 2) (marks : List Mark) (sides : ℕ → Side) (logs : ℕ → Log) (new : Side) → MachineRuns sizes (λ p. true) sides logs → FollowsRows sizes true (sides (1 - p)) (sides p) (map Marked marks) new → Stepped sizes sides logs p new (logs p)
marks_step sizes p p2 [] sides logs new r along = record { sides' = sides; logs' = logs; run = r; side_is = sym along; log_is = refl; sides_stay = λ q ne. refl; logs_stay = λ q ne. refl }
marks_step sizes p p2 (mark ∷ marks) sides logs new r along = let a = row_step sizes p p2 sides logs (Marked mark) along.0 r along.1 in let b = marks_step sizes p p2 marks a.sides' a.logs' new a.run (rows_on sizes p p2 (map Marked marks) sides logs along.0 new _ a along.2) in record {
  sides' = b.sides';
  logs' = b.logs';
  run = b.run;
  side_is = b.side_is;
  log_is = b.log_is ∙ a.log_is;
  sides_stay = λ q ne. b.sides_stay q ne ∙ a.sides_stay q ne;
  logs_stay = λ q ne. b.logs_stay q ne ∙ a.logs_stay q ne;
}

marks_run_machine : (sizes : Sizes) (p : ℕ) (p2 : p < 2) (side_event : SideEvent) (marks : List Mark) (sides : ℕ → Side) (logs : ℕ → Log) (new : Side) → MachineRuns sizes (λ p. true) sides logs → FollowsRows sizes true (sides (1 - p)) (sides p) (side_event ∷ map Marked marks) new →
    Stepped sizes sides logs p new (log_after (logs p) (logs (1 - p)) (sides p) side_event)
marks_run_machine sizes p p2 side_event marks sides logs new r along = let a = row_step sizes p p2 sides logs side_event along.0 r along.1 in let b = marks_step sizes p p2 marks a.sides' a.logs' new a.run (rows_on sizes p p2 (map Marked marks) sides logs along.0 new _ a along.2) in record {
  sides' = b.sides';
  logs' = b.logs';
  run = b.run;
  side_is = b.side_is;
  log_is = b.log_is ∙ a.log_is;
  sides_stay = λ q ne. b.sides_stay q ne ∙ a.sides_stay q ne;
  logs_stay = λ q ne. b.logs_stay q ne ∙ a.logs_stay q ne;
}

-- The log after an access.
abbrev log_by : Log → Log → Side → Access → Log
log_by l m side (access.State state) = log_after l m side (Wrote state)
log_by l m side (access.Read word) = l
log_by l m side (access.Write word value) = l
log_by l m side (access.Ring target vector) = l
log_by l m side access.Nothing = l

step_runs_machine : (sizes : Sizes) (p : ℕ) (p2 : p < 2) (a : Access) (value : ℕ) (marks : List Mark) (sides : ℕ → Side) (logs : ℕ → Log) (new : Side) → MachineRuns sizes (λ p. true) sides logs → FollowsRows sizes true (sides (1 - p)) (sides p) (side_events_of a value ++ map Marked marks) new →
    Stepped sizes sides logs p new (log_by (logs p) (logs (1 - p)) (sides p) a)
step_runs_machine sizes p p2 (access.Read word) value marks sides logs new r along = marks_run_machine sizes p p2 (Gave value) marks sides logs new r along
step_runs_machine sizes p p2 (access.Write word written) value marks sides logs new r along = marks_step sizes p p2 marks sides logs new r along
step_runs_machine sizes p p2 (access.Ring target vector) value marks sides logs new r along = marks_step sizes p p2 marks sides logs new r along
step_runs_machine sizes p p2 access.Nothing value marks sides logs new r along = marks_step sizes p p2 marks sides logs new r along
step_runs_machine sizes p p2 (access.State state) value marks sides logs new r along = marks_run_machine sizes p p2 (Wrote state) marks sides logs new r along

-- Against an other in RESET or INIT no side becomes attached.
stays_away : (p q new : Side) (l m l' : Log) → Kind p q l m new l' → q.state ≤ 1 → ¬ Attends p → ¬ Attends new
stays_away p q new l m l' (falls_to s n k ks ended) low away (inl e) = omega arith
stays_away p q new l m l' (falls_to s n k ks ended) low away (inr e) = let f = e.0 in omega arith
stays_away p q new l m l' (inits z saw s n k ks ended) low away (inl e) = omega arith
stays_away p q new l m l' (inits z saw s n k ks ended) low away (inr e) = let f = e.0 in omega arith
stays_away p q new l m l' (opens z some s n a d opened carried earlier ended) low away (inl e) = omega arith
stays_away p q new l m l' (opens z some s n a d opened carried earlier ended) low away (inr e) = subst SawHigh n e.1
stays_away p q new l m l' (runs z saw s n k opened carried earlier ended) low away attends = away (inr (z, saw))
stays_away p q new l m l' (sees s n k is) low away (inl e) = away (inl (sym s ∙ e))
stays_away p q new l m l' (sees s n k is) low away (inr e) = let h : 2 ≤ q.state = subst SawHigh n e.1 in omega arith
stays_away p q new l m l' (accepts z frame s n a d is) low away attends = away (inl z)
stays_away p q new l m l' (delivers z frame s n a d got is) low away attends = away (inl z)
stays_away p q new l m l' (counts s n k is) low away (inl e) = away (inl (sym s ∙ e))
stays_away p q new l m l' (counts s n k is) low away (inr e) = away (inr (sym s ∙ e.0, subst SawHigh n e.1))

away_along : (sizes : Sizes) (other : Side) (l m : Log) (tolds : List SideEvent) (side new : Side) → FollowsRows sizes true other side tolds new → other.state ≤ 1 → ¬ Attends side → ¬ Attends new
away_along sizes other l m [] side new along low away = subst (λ x. ¬ Attends x) (sym along) away
away_along sizes other l m (side_event ∷ tolds) side new along low away = away_along sizes other l m tolds along.0 new along.2 low (stays_away side other along.0 l m _ (kind_of sizes side other l m side_event along.0 along.1) low away)

-- Sides at a State step

-- The State that a side writes next is 0, or the State of a move.
abbrev StateGoes : ℕ → Side → Type 0
StateGoes state side = (state ≡ 0) ⊎ (((state ≡ 1) × (side.state ≡ 0) × SawLow side.seen) ⊎ (((state ≡ 2) × (side.state ≡ 1)) ⊎ ((state ≡ 3) × (side.state ≡ 2) × SawHigh side.seen)))

goes_by : (phase : Phase) (side : Side) (value state : ℕ) → side.state ≡ state_of phase → side.seen ≡ Some value → (state ≡ 0) ⊎ (((phase ≡ Reset) × (value ≤ 1) × (state ≡ 1)) ⊎ (((phase ≡ Init) × (1 ≤ value) × (state ≡ 2)) ⊎ ((phase ≡ Ready) × (2 ≤ value) × (state ≡ 3)))) → StateGoes state side
goes_by phase side value state is seen (inl e) = inl e
goes_by phase side value state is seen (inr (inl t)) = inr (inl (t.2, is ∙ ap state_of t.0, subst SawLow (sym seen) t.1))
goes_by phase side value state is seen (inr (inr (inl t))) = inr (inr (inl (t.2, is ∙ ap state_of t.0)))
goes_by phase side value state is seen (inr (inr (inr t))) = inr (inr (inr (t.2, is ∙ ap state_of t.0, subst SawHigh (sym seen) t.1)))

goes_to : (phase : Phase) (side : Side) (state : ℕ) → side.state ≡ state_of phase → (state ≡ 0) ⊎ ((value : ℕ) × (side.seen ≡ Some value) × MovesTo phase value state) → StateGoes state side
goes_to phase side state is (inl e) = inl e
goes_to phase side state is (inr h) = goes_by phase side h.0 state is h.1 (table phase h.0 state h.2)

seen_at : (end : End) (place : Place) (side : Side) (state : ℕ) → place ≡ WritingState state → SideIs end place side → StateGoes state side
seen_at end place side state e is = goes_to end.handshake.phase side state is.state (subst (λ x. CallIs end x side) e is.call).0

goes_one : (side : Side) (state : ℕ) → state ≡ 1 → StateGoes state side → (side.state ≡ 0) × SawLow side.seen
goes_one side state is (inl e) = absurd (omega arith)
goes_one side state is (inr (inl t)) = (t.1, t.2)
goes_one side state is (inr (inr (inl t))) = absurd (let e = t.0 in omega arith)
goes_one side state is (inr (inr (inr t))) = absurd (let e = t.0 in omega arith)

goes_two : (side : Side) (state : ℕ) → state ≡ 2 → StateGoes state side → side.state ≡ 1
goes_two side state is (inl e) = absurd (omega arith)
goes_two side state is (inr (inl t)) = absurd (let e = t.0 in omega arith)
goes_two side state is (inr (inr (inl t))) = t.1
goes_two side state is (inr (inr (inr t))) = absurd (let e = t.0 in omega arith)

goes_three : (side : Side) (state : ℕ) → state ≡ 3 → StateGoes state side → (side.state ≡ 2) × SawHigh side.seen
goes_three side state is (inl e) = absurd (omega arith)
goes_three side state is (inr (inl t)) = absurd (let e = t.0 in omega arith)
goes_three side state is (inr (inr (inl t))) = absurd (let e = t.0 in omega arith)
goes_three side state is (inr (inr (inr t))) = (t.1, t.2)

seen_one : (end : End) (place : Place) (side : Side) → place ≡ WritingState 1 → SideIs end place side → (side.state ≡ 0) × SawLow side.seen
seen_one end place side e is = goes_one side 1 refl (seen_at end place side 1 e is)

seen_two : (end : End) (place : Place) (side : Side) → place ≡ WritingState 2 → SideIs end place side → side.state ≡ 1
seen_two end place side e is = goes_two side 2 refl (seen_at end place side 2 e is)

seen_three : (end : End) (place : Place) (side : Side) → place ≡ WritingState 3 → SideIs end place side → (side.state ≡ 2) × SawHigh side.seen
seen_three end place side e is = goes_three side 3 refl (seen_at end place side 3 e is)

-- The logs of the lists

-- The number loaded is the number that the other opened.
abbrev LoadIs : Place → Numbers → ℕ → Type 0
LoadIs place n opened = (n.loaded ≡ None) ⊎ ((n.loaded ≡ Some opened) × (place ≡ WritingState 3))

-- The sides and logs of a run, with their relation to the ends, their numbers and session words.
record Tied (link_config : LinkConfig) (words : ℕ → ℕ) (ends : ℕ → End) (places : ℕ → Place) (numbers : ℕ → Numbers) : Type 0 where
  sides : ℕ → Side
  logs : ℕ → Log
  run : MachineRuns link_config.sizes (λ p. true) sides logs
  are : (p : ℕ) → p < 2 → SideIs (ends p) (places p) (sides p)
  own : (p : ℕ) → p < 2 → (numbers p).log ≡ logs p
  word : (p : ℕ) → p < 2 → WordIs (ends p) (numbers p) (words p)
  cross : (p : ℕ) → p < 2 → (numbers p).stored ≡ true → ¬ Attends (sides (1 - p))
  load : (p : ℕ) → p < 2 → LoadIs (places p) (numbers p) (numbers (1 - p)).log.opened

-- Logs with the same events.
wrote_like : (l l' m m' : Log) (s s' : Side) (state : ℕ) → l' ≡ l → (state ≡ 3 → m'.opened ≡ m.opened) → s'.state ≡ s.state → s'.accepted ≡ s.accepted → s'.delivered ≡ s.delivered → log_after l' m' s' (Wrote state) ≡ log_after l m s (Wrote state)
wrote_like l l' m m' s s' state e opened st ac de =
    let c : (if state == 3 then m'.opened else l'.carried) ≡ (if state == 3 then m.opened else l.carried) = dite (ℕ_discrete state 3)
    (λ i. let b = eq-eqb state 3 i in yes (state == 3) m'.opened l'.carried b ∙ (opened i ∙ sym (yes (state == 3) m.opened l.carried b)))
    (λ i. let b = ne_eqb state 3 i in no (state == 3) m'.opened l'.carried b ∙ (ap (λ (x : Log). x.carried) e ∙ sym (no (state == 3) m.opened l.carried b))) in
    λ k. record {
      opened = if state == 2 then (e k).opened + 1 else (e k).opened;
      carried = c k;
      earlier = λ number. (if state == 2 then (if number == (e k).opened then ac k else (e k).earlier number) else (e k).earlier number);
      ended = if st k == 3 then record { carried = (e k).carried; delivered = de k } ∷ (e k).ended else (e k).ended;
    }

reset_like : (l l' m m' : Log) (s s' : Side) → l' ≡ l → s'.state ≡ s.state → s'.delivered ≡ s.delivered → log_after l' m' s' WasReset ≡ log_after l m s WasReset
reset_like l l' m m' s s' e st de = λ k. record {
  opened = (e k).opened;
  carried = (e k).carried;
  earlier = (e k).earlier;
  ended = if st k == 3 then record { carried = (e k).carried; delivered = de k } ∷ (e k).ended else (e k).ended;
}

some_number : (o : Option ℕ) (n : ℕ) → o ≡ Some n → number_of o ≡ n
some_number o n e = ap number_of e

-- The number loaded, if one was loaded.
loaded_is : (place : Place) (n : Numbers) (opened : ℕ) → LoadIs place n opened → n.loaded ≢ None → number_of n.loaded ≡ opened
loaded_is place n opened (inl e) some = absurd (some e)
loaded_is place n opened (inr h) some = some_number n.loaded opened h.0

own_after : (end : End) (place : Place) (n : Numbers) (l m : Log) (side : Side) (opened : ℕ) (a : Access) → SideIs end place side → n.log ≡ l → LoadIs place n opened → opened ≡ m.opened → IsNumbered n a → (numbers_after n end a).log ≡ log_by l m side a
own_after end place n l m side opened (access.State state) is e load o numbered = wrote_like l n.log m (record no_sessions { opened = number_of n.loaded }) side (own_side end) state e (λ three. loaded_is place n opened load (numbered.1 three) ∙ o) (sym is.state) (sym is.accepted) (sym is.delivered)
own_after end place n l m side opened (access.Read word) is e load o numbered = e
own_after end place n l m side opened (access.Write word value) is e load o numbered = e
own_after end place n l m side opened (access.Ring target vector) is e load o numbered = e
own_after end place n l m side opened access.Nothing is e load o numbered = e

-- The number loaded and the store after an access.
load_after : (place place' : Place) (end : End) (n : Numbers) (opened : ℕ) (a : Access) → (place ≡ WritingState 3 → a ≡ access.State 3) → LoadIs place n opened → LoadIs place' (numbers_after n end a) opened
load_after place place' end n opened (access.State state) at load = inl refl
load_after place place' end n opened (access.Read word) at (inl e) = inl e
load_after place place' end n opened (access.Read word) at (inr h) = let e = at h.1 in absurd (cc)
load_after place place' end n opened (access.Write word value) at (inl e) = inl e
load_after place place' end n opened (access.Write word value) at (inr h) = let e = at h.1 in absurd (cc)
load_after place place' end n opened (access.Ring target vector) at (inl e) = inl e
load_after place place' end n opened (access.Ring target vector) at (inr h) = let e = at h.1 in absurd (cc)
load_after place place' end n opened access.Nothing at (inl e) = inl e
load_after place place' end n opened access.Nothing at (inr h) = let e = at h.1 in absurd (cc)

stored_before : (end : End) (n : Numbers) (a : Access) → (numbers_after n end a).stored ≡ true → n.stored ≡ true
stored_before end n (access.State state) e = dite (ℕ_discrete state 2)
    (λ i. absurd (clash (sym (yes (state == 2) false n.stored (eq-eqb state 2 i)) ∙ e)))
    (λ i. sym (no (state == 2) false n.stored (ne_eqb state 2 i)) ∙ e)
stored_before end n (access.Read word) e = e
stored_before end n (access.Write word value) e = e
stored_before end n (access.Ring target vector) e = e
stored_before end n access.Nothing e = e

-- Only a write of State 2 opens a session.
opened_after : (end : End) (n : Numbers) (a : Access) → (a ≡ access.State 2 → ⊥) → (numbers_after n end a).log.opened ≡ n.log.opened
opened_after end n (access.State state) not = no (state == 2) (n.log.opened + 1) n.log.opened (ne_eqb state 2 (λ e. not (ap access.State e)))
opened_after end n (access.Read word) not = refl
opened_after end n (access.Write word value) not = refl
opened_after end n (access.Ring target vector) not = refl
opened_after end n access.Nothing not = refl

is_two : (a : Access) → (a ≡ access.State 2) ⊎ (a ≡ access.State 2 → ⊥)
is_two (access.State state) = dite (ℕ_discrete state 2) (λ e. inl (ap access.State e)) (λ ne. inr (λ e. ne (ap state_in e)))
is_two (access.Read word) = inr (λ e. absurd (cc))
is_two (access.Write word value) = inr (λ e. absurd (cc))
is_two (access.Ring target vector) = inr (λ e. absurd (cc))
is_two access.Nothing = inr (λ e. absurd (cc))

load_like : (place place' : Place) (n n' : Numbers) (o o' : ℕ) → place' ≡ place → n' ≡ n → o' ≡ o → LoadIs place n o → LoadIs place' n' o'
load_like place place' n n' o o' e f g h = subst (λ x. LoadIs x n' o') (sym e) (subst (λ x. LoadIs place x o') (sym f) (subst (LoadIs place n) (sym g) h))

-- End p has a new end, a new place and new numbers, by a step of its side or by none.
tied_moved : (link_config : LinkConfig) (words now : ℕ → ℕ) (ends after_ends : ℕ → End) (places after_places : ℕ → Place) (numbers next : ℕ → Numbers) (p : ℕ) (end : End) (place : Place) (n : Numbers) (new : Side) (log : Log) → p < 2 → (t : Tied link_config words ends places numbers) → Stepped link_config.sizes t.sides t.logs p new log →
    SideIs end place new → n.log ≡ log → WordIs end n (now p) → ((q : ℕ) → q ≢ p → now q ≡ words q) → (n.stored ≡ true → ¬ Attends (t.sides (1 - p))) → ((numbers (1 - p)).stored ≡ true → ¬ Attends new) → LoadIs place n (numbers (1 - p)).log.opened → LoadIs (places (1 - p)) (numbers (1 - p)) n.log.opened →
    OnlyEndChanges ends after_ends places after_places p end place → OnlyNumbers numbers next p n → Tied link_config now after_ends after_places next
tied_moved link_config words now ends after_ends places after_places numbers next p end place n new log p2 t x is own word stay cross away load opposite only nums = record {
  sides = x.sides';
  logs = x.logs';
  run = x.run;
  are = λ q q2. dite (ℕ_discrete q p)
      (λ e. side_like end (after_ends q) place (after_places q) new (x.sides' q) (ap after_ends e ∙ only.end_is) (ap after_places e ∙ only.place_is) (ap x.sides' e ∙ x.side_is) is)
      (λ ne. side_like (ends q) (after_ends q) (places q) (after_places q) (t.sides q) (x.sides' q) (only.ends_stay q ne) (only.places_stay q ne) (x.sides_stay q ne) (t.are q q2));
  own = λ q q2. dite (ℕ_discrete q p)
      (λ e. ap (λ k. (next k).log) e ∙ (ap (λ (m : Numbers). m.log) nums.here ∙ (own ∙ (sym x.log_is ∙ ap x.logs' (sym e)))))
      (λ ne. ap (λ (m : Numbers). m.log) (nums.neighbour_word q ne) ∙ (t.own q q2 ∙ sym (x.logs_stay q ne)));
  word = λ q q2. dite (ℕ_discrete q p)
      (λ e. word_like end (after_ends q) n (next q) (now p) (now q) (ap after_ends e ∙ only.end_is) (ap next e ∙ nums.here) (ap now e) word)
      (λ ne. word_like (ends q) (after_ends q) (numbers q) (next q) (words q) (now q) (only.ends_stay q ne) (nums.neighbour_word q ne) (stay q ne) (t.word q q2));
  cross = λ q q2 st. dite (ℕ_discrete q p)
      (λ e. let o : 1 - q ≢ p = λ f. omega arith in subst (λ (s : Side). ¬ Attends s) (sym (x.sides_stay (1 - q) o ∙ ap (λ k. t.sides (1 - k)) e)) (cross (sym (ap (λ (m : Numbers). m.stored) (ap next e ∙ nums.here)) ∙ st)))
      (λ ne. let o : q ≡ 1 - p = omega arith in let b : 1 - q ≡ p = omega arith in subst (λ (s : Side). ¬ Attends s) (sym (ap x.sides' b ∙ x.side_is)) (away (sym (ap (λ (m : Numbers). m.stored) (nums.neighbour_word q ne ∙ ap numbers o)) ∙ st)));
  load = λ q q2. dite (ℕ_discrete q p)
      (λ e. let o : 1 - q ≢ p = λ f. omega arith in load_like place (after_places q) n (next q) (numbers (1 - p)).log.opened (next (1 - q)).log.opened (ap after_places e ∙ only.place_is) (ap next e ∙ nums.here) (ap (λ (m : Numbers). m.log.opened) (nums.neighbour_word (1 - q) o ∙ ap (λ k. numbers (1 - k)) e)) load)
      (λ ne. let o : q ≡ 1 - p = omega arith in let b : 1 - q ≡ p = omega arith in load_like (places (1 - p)) (after_places q) (numbers (1 - p)) (next q) n.log.opened (next (1 - q)).log.opened (only.places_stay q ne ∙ ap places o) (nums.neighbour_word q ne ∙ ap numbers o) (ap (λ (m : Numbers). m.log.opened) (ap next b ∙ nums.here)) opposite);
}

-- No step of a side.
stood_still : (sizes : Sizes) (sides : ℕ → Side) (logs : ℕ → Log) (p : ℕ) → MachineRuns sizes (λ p. true) sides logs → Stepped sizes sides logs p (sides p) (logs p)
stood_still sizes sides logs p r = record { sides' = sides; logs' = logs; run = r; side_is = refl; log_is = refl; sides_stay = λ q ne. refl; logs_stay = λ q ne. refl }

same_end : (ends : ℕ → End) (places : ℕ → Place) (p : ℕ) → OnlyEndChanges ends ends places places p (ends p) (places p)
same_end ends places p = record { end_is = refl; place_is = refl; ends_stay = λ q ne. refl; places_stay = λ q ne. refl }

-- While the other is at its State step with 3, an end isn't in INIT.
module _ (link_config : LinkConfig) (words : ℕ → ℕ) (ends : ℕ → End) (places : ℕ → Place) (numbers : ℕ → Numbers) (t : Tied link_config words ends places numbers) where
  half_at : (p : ℕ) → p < 2 → Half (t.sides p) (t.sides (1 - p)) (t.logs p) (t.logs (1 - p))
  half_at p p2 = half_of link_config.sizes (λ p. true) t.sides t.logs refl refl t.run p p2

  back : (p : ℕ) → p < 2 → 1 - (1 - p) ≡ p
  back p p2 = omega arith

  opens_none : (p : ℕ) → p < 2 → Attends (t.sides (1 - p)) → (t.sides p).state ≡ 1 → ⊥
  opens_none p p2 attends init = ((half_at (1 - p) (omega arith)).cross attends).0 (ap (λ k. (t.sides k).state) (back p p2) ∙ init)

  attends_at : (p : ℕ) → p < 2 → places p ≡ WritingState 3 → Attends (t.sides p)
  attends_at p p2 e = inr (seen_three (ends p) (places p) (t.sides p) e (t.are p p2))

  init_at : (p : ℕ) → p < 2 → places p ≡ WritingState 2 → (t.sides p).state ≡ 1
  init_at p p2 e = seen_two (ends p) (places p) (t.sides p) e (t.are p p2)

  load_back : (p : ℕ) → p < 2 → LoadIs (places (1 - p)) (numbers (1 - p)) (numbers p).log.opened
  load_back p p2 = subst (λ k. LoadIs (places (1 - p)) (numbers (1 - p)) (numbers k).log.opened) (back p p2) (t.load (1 - p) (omega arith))

  -- The number that the other loaded is still the number opened.
  theirs_after : (p : ℕ) → p < 2 → (a : Access) → (a ≡ access.State 2 → places p ≡ WritingState 2) → LoadIs (places (1 - p)) (numbers (1 - p)) (numbers_after (numbers p) (ends p) a).log.opened
  theirs_after p p2 a at = ⊎_elim
      (λ two. ⊎_elim (λ h. inl h) (λ h. absurd (opens_none p p2 (attends_at (1 - p) (omega arith) h.1) (init_at p p2 (at two)))) (load_back p p2))
      (λ not. subst (LoadIs (places (1 - p)) (numbers (1 - p))) (sym (opened_after (ends p) (numbers p) a not)) (load_back p p2))
      (is_two a)

  -- The State of an end that stored its session word is at most 1.
  low_other : (p : ℕ) → p < 2 → (numbers p).stored ≡ true → (t.sides p).state ≤ 1
  low_other p p2 st = ⊎_elim (λ h. absurd (clash (sym h.0 ∙ st))) (λ h. subst (λ k. k ≤ 1) (sym (t.are p p2).state) h.2) (t.word p p2)

  -- If the other is attached, the session word is the number of sessions.
  word_at : (p : ℕ) → p < 2 → Attends (t.sides (1 - p)) → words p ≡ (numbers p).log.opened
  word_at p p2 attends = ⊎_elim (λ h. h.1) (λ h. absurd (t.cross p p2 h.0 attends)) (t.word p p2)

-- Without the numbers they are runs of honest ends.
pub numbered_runs_are_honest : (link_config : LinkConfig) (memory words : ℕ → ℕ) (ends : ℕ → End) (places : ℕ → Place) (numbers : ℕ → Numbers) → NumberedRuns link_config memory words ends places numbers → HonestRuns link_config memory ends places
numbered_runs_are_honest link_config _ _ _ _ _ (starts memory words ends places numbers none zeros new closed fresh_numbers) = honest.starts memory ends places none new closed
numbered_runs_are_honest link_config _ _ _ _ _ (begins memory words ends after_ends places after_places numbers p call run p2 begun) = honest.begins memory ends after_ends places after_places p call (numbered_runs_are_honest link_config memory words ends places numbers run) p2 refl begun
numbered_runs_are_honest link_config _ _ _ _ _ (steps memory after words ends after_ends places after_places numbers next p value run p2 step numbered nums) = honest.steps memory after ends after_ends places after_places p value (numbered_runs_are_honest link_config memory words ends places numbers run) p2 refl step
numbered_runs_are_honest link_config _ _ _ _ _ (resets memory after words ends after_ends places after_places numbers next p run p2 reset nums) = honest.resets memory after ends after_ends places after_places p (numbered_runs_are_honest link_config memory words ends places numbers run) p2 refl reset
numbered_runs_are_honest link_config _ _ _ _ _ (others memory after words ends places numbers run keep) = honest.others memory after ends places (numbered_runs_are_honest link_config memory words ends places numbers run) (λ q q2 _. keep q q2)
numbered_runs_are_honest link_config _ _ _ _ _ (stores memory words now ends places numbers next p run p2 at now_is stay nums) = numbered_runs_are_honest link_config memory words ends places numbers run
numbered_runs_are_honest link_config _ _ _ _ _ (loads memory words ends places numbers next p run p2 at nums) = numbered_runs_are_honest link_config memory words ends places numbers run

tied : (link_config : LinkConfig) (memory words : ℕ → ℕ) (ends : ℕ → End) (places : ℕ → Place) (numbers : ℕ → Numbers) → IsLinkConfig link_config → NumberedRuns link_config memory words ends places numbers → Tied link_config words ends places numbers
tied link_config _ _ _ _ _ is (starts memory words ends places numbers none zeros new closed fresh_numbers) = record {
  sides = λ p. initial_side;
  logs = λ p. no_sessions;
  run = machine.starts (λ p. initial_side) (λ p. no_sessions) (λ p. refl) (λ p. refl);
  are = λ p p2. side_like fresh (ends p) Closed (places p) initial_side initial_side (new p) (closed p) refl steps_follow_rows.starts;
  own = λ p p2. ap (λ (m : Numbers). m.log) (fresh_numbers p);
  word = λ p p2. word_like (ends p) (ends p) no_numbers (numbers p) 0 (words p) refl (fresh_numbers p) (zeros p) (inl (refl, refl));
  cross = λ p p2 st. absurd (clash (sym (ap (λ (m : Numbers). m.stored) (fresh_numbers p)) ∙ st));
  load = λ p p2. inl (ap (λ (m : Numbers). m.loaded) (fresh_numbers p));
}
tied link_config _ _ _ _ _ is (begins memory words ends after_ends places after_places numbers p call run p2 begun) = let t = tied link_config memory words ends places numbers is run in
    tied_moved link_config words words ends after_ends places after_places numbers numbers p (ends p) (first_place (config_of link_config p) (ends p) call) (numbers p) (t.sides p) (t.logs p) p2 t (stood_still link_config.sizes t.sides t.logs p t.run)
    (steps_follow_rows.begins (config_of link_config p) (ends p) call (t.sides p) (subst (λ (x : Place). SideIs (ends p) x (t.sides p)) begun.closed (t.are p p2))) (t.own p p2) (t.word p p2) (λ q ne. refl) (t.cross p p2)
    (λ st. subst (λ k. ¬ Attends (t.sides k)) (back link_config words ends places numbers t p p2) (t.cross (1 - p) (omega arith) st))
    (⊎_elim (λ h. inl h) (λ h. let e = sym begun.closed ∙ h.1 in absurd (cc)) (t.load p p2)) (load_back link_config words ends places numbers t p p2) begun.comes record { here = refl; neighbour_word = λ q ne. refl }
tied link_config _ _ _ _ _ is (steps memory after words ends after_ends places after_places numbers next p value run p2 step numbered nums) = let t = tied link_config memory words ends places numbers is run in let o2 : 1 - p < 2 = omega arith in
    let held = runs_keep_invariant link_config (λ p. true) memory ends places is (numbered_runs_are_honest link_config memory words ends places numbers run) in
    let config = config_of link_config p in let a = access_at config (places p) in let mine = held.alone p p2 refl in
    let state : (t.sides (1 - p)).state ≡ memory (1 - p) = (t.are (1 - p) o2).state ∙ sym (held.alone (1 - p) o2 refl).state in
    let f = steps_follow_rows.steps link_config (λ p. true) memory ends places p value (t.sides p) (t.sides (1 - p)) is p2 refl held (t.are p p2) state (λ _. t.are (1 - p) o2) step.opened step.meets in
    let x = step_runs_machine link_config.sizes p p2 a (step_at config (places p) value).value (step_at config (places p) value).marks t.sides t.logs f.0 t.run f.1 in
    tied_moved link_config words words ends after_ends places after_places numbers next p _ _ (numbers_after (numbers p) (ends p) a) f.0 (log_by (t.logs p) (t.logs (1 - p)) (t.sides p) a) p2 t x f.2
    (own_after (ends p) (places p) (numbers p) (t.logs p) (t.logs (1 - p)) (t.sides p) (numbers (1 - p)).log.opened a (t.are p p2) (t.own p p2) (t.load p p2) (ap (λ (l : Log). l.opened) (t.own (1 - p) o2)) numbered)
    (word_step config (places p) (ends p) (numbers p) (words p) value (λ s e low. low_writes link_config p memory (ends p) config (places p) s mine.holds e low) numbered (t.word p p2)) (λ q ne. refl)
    (λ st. t.cross p p2 (stored_before (ends p) (numbers p) a st))
    (λ st. away_along link_config.sizes (t.sides (1 - p)) no_sessions no_sessions (side_events_by (step_at config (places p) value)) (t.sides p) f.0 f.1 (low_other link_config words ends places numbers t (1 - p) o2 st) (subst (λ k. ¬ Attends (t.sides k)) (back link_config words ends places numbers t p p2) (t.cross (1 - p) o2 st)))
    (load_after (places p) _ (ends p) (numbers p) (numbers (1 - p)).log.opened a (λ e. ap (access_at config) e) (t.load p p2))
    (theirs_after link_config words ends places numbers t p p2 a (λ e. ⊎_elim (λ h. h) (λ z. let none = z.1 in absurd (omega arith)) (state_at config (places p) 2 e))) step.comes nums
tied link_config _ _ _ _ _ is (resets memory after words ends after_ends places after_places numbers next p run p2 reset nums) = let t = tied link_config memory words ends places numbers is run in let o2 : 1 - p < 2 = omega arith in
    let f = steps_follow_rows.resets link_config.sizes true (ends p) (places p) (t.sides p) (t.sides (1 - p)) (t.are p p2) in
    let x = row_step link_config.sizes p p2 t.sides t.logs WasReset f.0 t.run f.1 in
    tied_moved link_config words words ends after_ends places after_places numbers next p (after_reset (ends p)) Closed (numbers_reset (numbers p) (ends p)) f.0 (log_after (t.logs p) (t.logs (1 - p)) (t.sides p) WasReset) p2 t x f.2
    (reset_like (t.logs p) (numbers p).log (t.logs (1 - p)) (record no_sessions { opened = number_of (numbers p).loaded }) (t.sides p) (own_side (ends p)) (t.own p p2) (sym (t.are p p2).state) (sym (t.are p p2).delivered))
    (word_reset (ends p) (numbers p) (words p) (t.word p p2)) (λ q ne. refl) (t.cross p p2)
    (λ st. away_along link_config.sizes (t.sides (1 - p)) no_sessions no_sessions (WasReset ∷ []) (t.sides p) f.0 (f.0, f.1, refl) (low_other link_config words ends places numbers t (1 - p) o2 st) (subst (λ k. ¬ Attends (t.sides k)) (back link_config words ends places numbers t p p2) (t.cross (1 - p) o2 st)))
    (inl refl) (load_back link_config words ends places numbers t p p2) reset.comes nums
tied link_config _ _ _ _ _ is (others memory after words ends places numbers run keep) = tied link_config memory words ends places numbers is run
tied link_config _ _ _ _ _ is (stores memory words now ends places numbers next p run p2 phase now_is stay nums) = let t = tied link_config memory words ends places numbers is run in
    let init : (t.sides p).state ≡ 1 = (t.are p p2).state ∙ ap state_of phase in
    tied_moved link_config words now ends ends places places numbers next p (ends p) (places p) (with_stored (numbers p)) (t.sides p) (t.logs p) p2 t (stood_still link_config.sizes t.sides t.logs p t.run) (t.are p p2) (t.own p p2)
    (word_stored (ends p) (numbers p) (now p) (ap state_of phase) now_is) stay (λ st attends. opens_none link_config words ends places numbers t p p2 attends init)
    (λ st. subst (λ k. ¬ Attends (t.sides k)) (back link_config words ends places numbers t p p2) (t.cross (1 - p) (omega arith) st)) (t.load p p2) (load_back link_config words ends places numbers t p p2) (same_end ends places p) nums
tied link_config _ _ _ _ _ is (loads memory words ends places numbers next p run p2 at nums) = let t = tied link_config memory words ends places numbers is run in let o2 : 1 - p < 2 = omega arith in
    let seen : words (1 - p) ≡ (numbers (1 - p)).log.opened = word_at link_config words ends places numbers t (1 - p) o2 (subst (λ k. Attends (t.sides k)) (sym (back link_config words ends places numbers t p p2)) (attends_at link_config words ends places numbers t p p2 at)) in
    tied_moved link_config words words ends ends places places numbers next p (ends p) (places p) (with_loaded (numbers p) (words (1 - p))) (t.sides p) (t.logs p) p2 t (stood_still link_config.sizes t.sides t.logs p t.run) (t.are p p2) (t.own p p2)
    (t.word p p2) (λ q ne. refl) (t.cross p p2)
    (λ st. subst (λ k. ¬ Attends (t.sides k)) (back link_config words ends places numbers t p p2) (t.cross (1 - p) o2 st)) (inr (ap Some seen, at)) (load_back link_config words ends places numbers t p p2) (same_end ends places p) nums

-- The consequences of the numbers for the two ends

beginnings_like : (m : Log) (q q' : Side) (sessions : List Ended) → q'.accepted ≡ q.accepted → AreBeginnings m q sessions → AreBeginnings m q' sessions
beginnings_like m q q' [] e h = tt
beginnings_like m q q' (session ∷ sessions) e h = (h.0, (h.1.0, ap (λ (x : List (List ℕ)). if session.carried == m.opened then x else m.earlier session.carried) e ∙ h.1.1), beginnings_like m q q' sessions e h.2)

delivers_like : (p p' q q' : Side) (l m : Log) → p'.state ≡ p.state → p'.delivered ≡ p.delivered → q'.accepted ≡ q.accepted → DeliversInOrder p q l m → DeliversInOrder p' q' l m
delivers_like p p' q q' l m st de ac d = record {
  present = λ e. let h = d.present (sym st ∙ e) in (h.0, (h.1.0, ac ∙ (h.1.1 ∙ ap (λ (x : List (List ℕ)). x ++ h.1.0) (sym de))), h.2);
  past = beginnings_like m q q' l.ended ac d.past;
  once = d.once;
}

pub sessions_are_paired : SessionsArePaired
sessions_are_paired link_config memory words ends places numbers is run = let t = tied link_config memory words ends places numbers is run in (numbered_runs_are_honest link_config memory words ends places numbers run, (t.sides, t.logs, t.run, λ p p2. (t.are p p2, t.own p p2, paired t p p2)))
  where
    paired : (t : Tied link_config words ends places numbers) (p : ℕ) → p < 2 → IsPaired (ends p) (ends (1 - p)) (places p) (places (1 - p)) (numbers p) (numbers (1 - p)) (words p)
    paired t p p2 = let o2 : 1 - p < 2 = omega arith in let h = half_at link_config words ends places numbers t p p2 in let mine = t.are p p2 in let opposite = t.are (1 - p) o2 in
        let n = sym (t.own p p2) in let m = sym (t.own (1 - p) o2) in
        let opened : (t.logs (1 - p)).opened ≡ (numbers (1 - p)).log.opened = ap (λ (l : Log). l.opened) m in let carried : (t.logs p).carried ≡ (numbers p).log.carried = ap (λ (l : Log). l.carried) n in record {
          deliver = subst (λ (l : Log). DeliversInOrder (own_side (ends p)) (own_side (ends (1 - p))) l (numbers (1 - p)).log) n (subst (λ (l : Log). DeliversInOrder (own_side (ends p)) (own_side (ends (1 - p))) (t.logs p) l) m
              (delivers_like (t.sides p) (own_side (ends p)) (t.sides (1 - p)) (own_side (ends (1 - p))) (t.logs p) (t.logs (1 - p)) (sym mine.state) (sym mine.delivered) (sym opposite.accepted) (machine_delivers link_config.sizes (λ p. true) t.sides t.logs refl refl t.run p p2)));
          one = λ up. let up' : 2 ≤ (t.sides p).state = subst (λ k. 2 ≤ k) (sym mine.state) up in subst (λ (l : Log). 1 ≤ l.opened) n (h.one up');
          risen = let r = h.risen in omega arith;
          on_the_way = λ way up. let up' : 2 ≤ (t.sides (1 - p)).state = subst (λ k. 2 ≤ k) (sym opposite.state) up in
              let way' : Begins (t.sides p) = ⊎_elim (λ e. inl (mine.state ∙ e)) (λ w. ⊎_elim (λ e. inr (inl (mine.state ∙ e))) (λ e. inr (inr (mine.state ∙ e.0, (seen_one (ends p) (places p) (t.sides p) e.1 mine).1))) w) way in let r = h.begins way' up' in omega arith;
          attends = λ at. let s = seen_three (ends p) (places p) (t.sides p) at mine in let r = h.attends s.0 s.1 in omega arith;
          loaded = λ number e. ⊎_elim (λ none. let f = sym e ∙ none in absurd (cc)) (λ k. (ap number_of (sym e ∙ k.0), k.1)) (t.load p p2);
          word_is = t.word p p2;
          carried = λ at. word_at link_config words ends places numbers t p p2 (⊎_elim (λ e. inl (opposite.state ∙ e)) (λ e. attends_at link_config words ends places numbers t (1 - p) o2 e) at);
        }
