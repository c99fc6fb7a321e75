-- Runs of two honest ends are runs of the link machine.
use Rattle.std.proofs.Common.{◌≡◌, ◌≢◌, ℕ, ◌-◌, ◌<◌, true, List, [], ◌∷◌, refl, sym, ap, ◌∙◌, subst, arith, eq-eqb, ne_eqb}
use mathlib.Core.Logic.{dite}
use native.Mathlib.Decide.{ℕ_discrete}
use Rattle.std.specs.Prelude.{◌==◌, if◌then◌else◌}
use Rattle.split_ring.specs.Layout.{Sizes}
use Rattle.call_grammar.specs.Ends.{End, fresh, after_reset}
use Rattle.call_grammar.specs.Places.{Place, Closed, first_place, step_at}
use Rattle.link_machine.specs.LinkMachine.{Side, initial_side, SideEvent, WasReset, Row, Log, no_sessions, log_after, MachineRuns, DeliversInOrder}
use Rattle.link_machine.specs.LinkMachine as machine
use Rattle.call_grammar.proofs.OfferLists.{yes, no}
use Rattle.link_machine.proofs.DeliversInOrder.{machine as machine_delivers}
use Rattle.link_invariant.specs.LinkConfig.{LinkConfig, IsLinkConfig, config_of}
use Rattle.link_invariant.specs.Steps.{OnlyEndChanges}
use Rattle.link_invariant.specs.Sides.{side_events_by, FollowsRows, SideIs}
use Rattle.link_invariant.specs.Runs.{starts, begins, steps, resets, others, RunsKeepInvariant, HonestRuns, HonestRunsDeliver}
use Rattle.link_invariant.proofs.LinkInvariantKept.{whole_kept}
use Rattle.link_invariant.proofs.RowsKept.{steps_follow_rows}

-- All runs of two ends satisfy the invariant.
pub runs_keep_invariant : RunsKeepInvariant
runs_keep_invariant link_config honest _ _ _ is (starts memory ends places none new closed) = whole_kept.starts link_config honest memory ends places none new closed
runs_keep_invariant link_config honest _ _ _ is (begins memory ends after_ends places after_places p call run p2 hp begun) = whole_kept.begins link_config honest memory ends after_ends places after_places p call is p2 hp begun (runs_keep_invariant link_config honest memory ends places is run)
runs_keep_invariant link_config honest _ _ _ is (steps memory after ends after_ends places after_places p value run p2 hp step) = whole_kept.steps link_config honest memory after ends after_ends places after_places p value is p2 hp step (runs_keep_invariant link_config honest memory ends places is run)
runs_keep_invariant link_config honest _ _ _ is (resets memory after ends after_ends places after_places p run p2 hp reset) = whole_kept.resets link_config honest memory after ends after_ends places after_places p is p2 hp reset (runs_keep_invariant link_config honest memory ends places is run)
runs_keep_invariant link_config honest _ _ _ is (others memory after ends places run keep) = whole_kept.others link_config honest memory after ends places is keep (runs_keep_invariant link_config honest memory ends places is run)

-- Two sides and their sessions in a run of the machine, and that the ends are these sides.
record AreSides (link_config : LinkConfig) (ends : ℕ → End) (places : ℕ → Place) : Type 0 where
  sides : ℕ → Side
  logs : ℕ → Log
  runs : MachineRuns link_config.sizes (λ p. true) sides logs
  are : (p : ℕ) → p < 2 → SideIs (ends p) (places p) (sides p)

-- One side and its log change.
changed : {A : Type 0} → (ℕ → A) → ℕ → A → ℕ → A
changed f p x q = if q == p then x else f q

changed_here : {A : Type 0} → (f : ℕ → A) (p : ℕ) (x : A) → changed f p x p ≡ x
unfolding changed
changed_here f p x = yes (p == p) x (f p) (eq-eqb p p refl)

changed_beside : {A : Type 0} → (f : ℕ → A) (p q : ℕ) (x : A) → q ≢ p → changed f p x q ≡ f q
unfolding changed
changed_beside f p q x ne = no (q == p) x (f q) (ne_eqb q p ne)

-- The run continues with a new side and log of p, and the other stays.
pub record Stepped (sizes : Sizes) (sides : ℕ → Side) (logs : ℕ → Log) (p : ℕ) (new : Side) (log : Log) : Type 0 where
  pub sides' : ℕ → Side
  pub logs' : ℕ → Log
  pub run : MachineRuns sizes (λ p. true) sides' logs'
  pub side_is : sides' p ≡ new
  pub log_is : logs' p ≡ log
  pub sides_stay : (q : ℕ) → q ≢ p → sides' q ≡ sides q
  pub logs_stay : (q : ℕ) → q ≢ p → logs' q ≡ logs q

-- A row of p continues the run.
pub row_step : (sizes : Sizes) (p : ℕ) (p2 : p < 2) (sides : ℕ → Side) (logs : ℕ → Log) (side_event : SideEvent) (new : Side) → MachineRuns sizes (λ p. true) sides logs → Row sizes true true (sides p) (sides (1 - p)) side_event new →
    Stepped sizes sides logs p new (log_after (logs p) (logs (1 - p)) (sides p) side_event)
row_step sizes p p2 sides logs side_event new r row = let l = log_after (logs p) (logs (1 - p)) (sides p) side_event in let ne : 1 - p ≢ p = λ e. omega arith in record {
  sides' = changed sides p new;
  logs' = changed logs p l;
  run = machine.goes sides (changed sides p new) logs (changed logs p l) p side_event r p2 (subst (λ (x : Side). Row sizes true true (sides p) (sides (1 - p)) side_event x) (sym (changed_here sides p new)) row)
      (changed_beside sides p (1 - p) new ne) (changed_here logs p l) (changed_beside logs p (1 - p) l ne);
  side_is = changed_here sides p new;
  log_is = changed_here logs p l;
  sides_stay = λ q ne. changed_beside sides p q new ne;
  logs_stay = λ q ne. changed_beside logs p q l ne;
}

-- The rows left after one of them.
pub rows_on : (sizes : Sizes) (p : ℕ) (p2 : p < 2) (side_events : List SideEvent) (sides : ℕ → Side) (logs : ℕ → Log) (mid new : Side) (log : Log) → (a : Stepped sizes sides logs p mid log) → FollowsRows sizes true (sides (1 - p)) mid side_events new → FollowsRows sizes true (a.sides' (1 - p)) (a.sides' p) side_events new
rows_on sizes p p2 side_events sides logs mid new log a rows = let ne : 1 - p ≢ p = λ e. omega arith in
    subst (λ (x : Side). FollowsRows sizes true x (a.sides' p) side_events new) (sym (a.sides_stay (1 - p) ne)) (subst (λ (x : Side). FollowsRows sizes true (sides (1 - p)) x side_events new) (sym a.side_is) rows)

along_runs : (sizes : Sizes) (side_events : List SideEvent) (sides : ℕ → Side) (logs : ℕ → Log) (p : ℕ) (new : Side) → p < 2 → MachineRuns sizes (λ p. true) sides logs → FollowsRows sizes true (sides (1 - p)) (sides p) side_events new →
    (log : Log) × Stepped sizes sides logs p new log
along_runs sizes [] sides logs p new p2 runs along = (logs p, record { sides' = sides; logs' = logs; run = runs; side_is = sym along; log_is = refl; sides_stay = λ q ne. refl; logs_stay = λ q ne. refl })
along_runs sizes (side_event ∷ side_events) sides logs p new p2 runs along = let a = row_step sizes p p2 sides logs side_event along.0 runs along.1 in let b = along_runs sizes side_events a.sides' a.logs' p new p2 a.run (rows_on sizes p p2 side_events sides logs along.0 new _ a along.2) in
    (b.0, record { sides' = b.1.sides'; logs' = b.1.logs'; run = b.1.run; side_is = b.1.side_is; log_is = b.1.log_is; sides_stay = λ q ne. b.1.sides_stay q ne ∙ a.sides_stay q ne; logs_stay = λ q ne. b.1.logs_stay q ne ∙ a.logs_stay q ne })

pub side_like : (end end' : End) (place place' : Place) (side side' : Side) → end' ≡ end → place' ≡ place → side' ≡ side → SideIs end place side → SideIs end' place' side'
side_like end end' place place' side side' e f g h = subst (λ (x : End). SideIs x place' side') (sym e) (subst (λ (x : Place). SideIs end x side') (sym f) (subst (λ (x : Side). SideIs end place x) (sym g) h))

-- The sides after a step of p.
moved : (link_config : LinkConfig) (ends after_ends : ℕ → End) (places after_places : ℕ → Place) (p : ℕ) (end : End) (place : Place) (side_events : List SideEvent) (new : Side) → p < 2 → (r : AreSides link_config ends places) → FollowsRows link_config.sizes true (r.sides (1 - p)) (r.sides p) side_events new → SideIs end place new →
    OnlyEndChanges ends after_ends places after_places p end place → AreSides link_config after_ends after_places
moved link_config ends after_ends places after_places p end place side_events new p2 r along is only = let x = (along_runs link_config.sizes side_events r.sides r.logs p new p2 r.runs along).1 in record {
  sides = x.sides';
  logs = x.logs';
  runs = x.run;
  are = λ q q2. dite (ℕ_discrete q p)
      (λ e. side_like end (after_ends q) place (after_places q) new (x.sides' q) (ap after_ends e ∙ only.end_is) (ap after_places e ∙ only.place_is) (ap x.sides' e ∙ x.side_is) is)
      (λ ne. side_like (ends q) (after_ends q) (places q) (after_places q) (r.sides q) (x.sides' q) (only.ends_stay q ne) (only.places_stay q ne) (x.sides_stay q ne) (r.are q q2));
}

-- Two honest ends are the sides of a run of the machine.
honest_runs_have_sides : (link_config : LinkConfig) (memory : ℕ → ℕ) (ends : ℕ → End) (places : ℕ → Place) → IsLinkConfig link_config → HonestRuns link_config memory ends places → AreSides link_config ends places
honest_runs_have_sides link_config _ _ _ is (starts memory ends places none new closed) = record {
  sides = λ p. initial_side;
  logs = λ p. no_sessions;
  runs = machine.starts (λ p. initial_side) (λ p. no_sessions) (λ p. refl) (λ p. refl);
  are = λ p p2. side_like fresh (ends p) Closed (places p) initial_side initial_side (new p) (closed p) refl steps_follow_rows.starts;
}
honest_runs_have_sides link_config _ _ _ is (begins memory ends after_ends places after_places p call run p2 hp begun) = let r = honest_runs_have_sides link_config memory ends places is run in
    moved link_config ends after_ends places after_places p (ends p) (first_place (config_of link_config p) (ends p) call) [] (r.sides p) p2 r refl
    (steps_follow_rows.begins (config_of link_config p) (ends p) call (r.sides p) (subst (λ (x : Place). SideIs (ends p) x (r.sides p)) begun.closed (r.are p p2))) begun.comes
honest_runs_have_sides link_config _ _ _ is (steps memory after ends after_ends places after_places p value run p2 hp step) = let r = honest_runs_have_sides link_config memory ends places is run in let held = runs_keep_invariant link_config (λ p. true) memory ends places is run in let o2 : 1 - p < 2 = omega arith in
    let state : (r.sides (1 - p)).state ≡ memory (1 - p) = (r.are (1 - p) o2).state ∙ sym (held.alone (1 - p) o2 refl).state in
    let f = steps_follow_rows.steps link_config (λ p. true) memory ends places p value (r.sides p) (r.sides (1 - p)) is p2 refl held (r.are p p2) state (λ _. r.are (1 - p) o2) step.opened step.meets in
    moved link_config ends after_ends places after_places p _ _ (side_events_by (step_at (config_of link_config p) (places p) value)) f.0 p2 r f.1 f.2 step.comes
honest_runs_have_sides link_config _ _ _ is (resets memory after ends after_ends places after_places p run p2 hp reset) = let r = honest_runs_have_sides link_config memory ends places is run in
    let f = steps_follow_rows.resets link_config.sizes true (ends p) (places p) (r.sides p) (r.sides (1 - p)) (r.are p p2) in
    moved link_config ends after_ends places after_places p (after_reset (ends p)) Closed (WasReset ∷ []) f.0 p2 r (f.0, f.1, refl) f.2 reset.comes
honest_runs_have_sides link_config _ _ _ is (others memory after ends places run keep) = honest_runs_have_sides link_config memory ends places is run

pub runs_deliver : HonestRunsDeliver
runs_deliver link_config memory ends places is run = let r = honest_runs_have_sides link_config memory ends places is run in (r.sides, r.logs, r.runs, λ p p2. (r.are p p2, machine_delivers link_config.sizes (λ p. true) r.sides r.logs refl refl r.runs p p2))
