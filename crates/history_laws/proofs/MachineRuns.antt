-- The lines of a history as a run of the link machine.
use Rattle.std.proofs.Common.{◌≡◌, ◌≢◌, ℕ, ◌-◌, ◌<◌, List, [], ◌∷◌, ◌++◌, refl, sym, ◌∙◌, ap, subst, arith, inl, inr, ne_eqb}
use mathlib.Core.Logic.{dite}
use native.Mathlib.Decide.{ℕ_discrete}
use Rattle.std.specs.Prelude.{◌==◌, if◌then◌else◌, reverse}
use Rattle.std.proofs.lemmas.Bool.{cases_lt}
use Rattle.scenario_text.specs.Scenario.{World, is_link}
use Rattle.link_machine.specs.LinkMachine.{Side, initial_side, SideEvent, Gave, Wrote, Marked, WasReset, Row, Log, no_sessions, log_after, MachineRuns, starts, goes, DeliversInOrder}
use Rattle.call_grammar.proofs.OfferLists.{no}
use Rattle.link_machine.proofs.DeliversInOrder.{machine}
use Rattle.lawful_history.specs.declared.line.Line.{Line}
use Rattle.history_laws.specs.SideEvents.{LineSideEvent, HasEvent, HasNoEvent, line_side_event_of, side_after, side_after_line, side_of}
use Rattle.history_laws.specs.Rows.{EachLine, IsRow, HasRow}
use Rattle.history_laws.specs.Sessions.{log_after_line, log_of, HistoriesDeliver}
use Rattle.history_laws.proofs.LinkPlaces.{Fine}
use Rattle.history_laws.proofs.OtherLines.{here_is, there_is}
use Rattle.history_laws.proofs.Lines.{at_beginning}
use Rattle.history_laws.proofs.PlacesAlong.{all_fine}

-- A run of the machine to the sides and sessions of the link peers after these lines.
record RunsTo (world : World) (past : List Line) : Type 0 where
  sides : ℕ → Side
  logs : ℕ → Log
  runs : MachineRuns world.queue (is_link world) sides logs
  sides_are : (q : ℕ) → q < 2 → sides q ≡ side_of past q
  logs_are : (q : ℕ) → q < 2 → logs q ≡ log_of past q

runs_alike : (world : World) (past : List Line) (l : Line) → ((q : ℕ) → q < 2 → side_of (l ∷ past) q ≡ side_of past q) → ((q : ℕ) → q < 2 → log_of (l ∷ past) q ≡ log_of past q) → RunsTo world past → RunsTo world (l ∷ past)
runs_alike world past l same_side same_log r = record { sides = r.sides; logs = r.logs; runs = r.runs; sides_are = λ q below. r.sides_are q below ∙ sym (same_side q below); logs_are = λ q below. r.logs_are q below ∙ sym (same_log q below) }

-- A line with the side event t.
side_is : (past : List Line) (l : Line) (t : LineSideEvent) (q : ℕ) → line_side_event_of l ≡ t → side_of (l ∷ past) q ≡ side_after_line t q (side_of past q)
side_is past l t q e = ap (λ (x : LineSideEvent). side_after_line x q (side_of past q)) e

log_is : (past : List Line) (l : Line) (t : LineSideEvent) (q : ℕ) → line_side_event_of l ≡ t → log_of (l ∷ past) q ≡ log_after_line t q (side_of past q) (log_of past q) (log_of past (1 - q))
log_is past l t q e = ap (λ (x : LineSideEvent). log_after_line x q (side_of past q) (log_of past q) (log_of past (1 - q))) e

row_of : (world : World) (past : List Line) (p : ℕ) (side_event : SideEvent) (new : Side) → p < 2 → IsRow world past p side_event new → Row world.queue (is_link world p) (is_link world (1 - p)) (side_of past p) (side_of past (1 - p)) side_event new
row_of world past p (Gave value) new below row = row below
row_of world past p (Wrote state) new below row = row below
row_of world past p (Marked mark) new below row = row.1
row_of world past p WasReset new below row = row below

other_below : (p : ℕ) → p < 2 → 1 - p < 2
other_below p below = omega arith

-- One link peer's side and sessions change.
module _ {A : Type 0} (f : ℕ → A) (p : ℕ) (x : A) where
  changed : ℕ → A
  changed q = if q == p then x else f q

  changed_here : changed p ≡ x
  unfolding changed
  changed_here = here_is p x (f p)

  changed_beside : (q : ℕ) → q ≢ p → changed q ≡ f q
  unfolding changed
  changed_beside q ne = no (q == p) x (f q) (ne_eqb q p ne)

side_event_runs : (world : World) (past : List Line) (l : Line) (p : ℕ) (side_event : SideEvent) → p < 2 → line_side_event_of l ≡ HasEvent p side_event → IsRow world past p side_event (side_of (l ∷ past) p) → RunsTo world past → RunsTo world (l ∷ past)
side_event_runs world past l p side_event below has_event row r =
    let new = side_of (l ∷ past) p in
    let log = log_of (l ∷ past) p in
    let o2 = other_below p below in
    let ne : 1 - p ≢ p = λ e. absurd (omega arith) in
    let sides' = changed r.sides p new in
    let logs' = changed r.logs p log in
    let row_here : Row world.queue (is_link world p) (is_link world (1 - p)) (r.sides p) (r.sides (1 - p)) side_event (sides' p) =
    subst (λ (x : Side). Row world.queue (is_link world p) (is_link world (1 - p)) (r.sides p) (r.sides (1 - p)) side_event x) (sym (changed_here r.sides p new))
    (subst (λ (x : Side). Row world.queue (is_link world p) (is_link world (1 - p)) x (r.sides (1 - p)) side_event new) (sym (r.sides_are p below))
    (subst (λ (x : Side). Row world.queue (is_link world p) (is_link world (1 - p)) (side_of past p) x side_event new) (sym (r.sides_are (1 - p) o2)) (row_of world past p side_event new below row))) in
    let log_here : log ≡ log_after (r.logs p) (r.logs (1 - p)) (r.sides p) side_event =
    log_is past l (HasEvent p side_event) p has_event ∙ (here_is p (log_after (log_of past p) (log_of past (1 - p)) (side_of past p) side_event) (log_of past p) ∙
    (ap (λ (x : Log). log_after x (log_of past (1 - p)) (side_of past p) side_event) (sym (r.logs_are p below)) ∙
    (ap (λ (x : Log). log_after (r.logs p) x (side_of past p) side_event) (sym (r.logs_are (1 - p) o2)) ∙
    ap (λ (x : Side). log_after (r.logs p) (r.logs (1 - p)) x side_event) (sym (r.sides_are p below))))) in
    record {
      sides = sides';
      logs = logs';
      runs = goes r.sides sides' r.logs logs' p side_event r.runs below row_here (changed_beside r.sides p new (1 - p) ne) (changed_here r.logs p log ∙ log_here) (changed_beside r.logs p log (1 - p) ne);
      sides_are = λ q below'. dite (ℕ_discrete q p)
          (λ e. subst (λ (k : ℕ). sides' k ≡ side_of (l ∷ past) k) (sym e) (changed_here r.sides p new))
          (λ ne'. changed_beside r.sides p new q ne' ∙ (r.sides_are q below' ∙ sym (side_is past l (HasEvent p side_event) q has_event ∙ there_is p q (side_after side_event (side_of past q)) (side_of past q) (λ e. ne' (sym e)))));
      logs_are = λ q below'. dite (ℕ_discrete q p)
          (λ e. subst (λ (k : ℕ). logs' k ≡ log_of (l ∷ past) k) (sym e) (changed_here r.logs p log))
          (λ ne'. changed_beside r.logs p log q ne' ∙ (r.logs_are q below' ∙ sym (log_is past l (HasEvent p side_event) q has_event ∙ there_is p q (log_after (log_of past q) (log_of past (1 - q)) (side_of past q) side_event) (log_of past q) (λ e. ne' (sym e)))));
    }

line_runs : (world : World) (past : List Line) (l : Line) (t : LineSideEvent) → line_side_event_of l ≡ t → HasRow world past l t → RunsTo world past → RunsTo world (l ∷ past)
line_runs world past l HasNoEvent has_event row r = runs_alike world past l (λ q below. side_is past l HasNoEvent q has_event) (λ q below. log_is past l HasNoEvent q has_event) r
line_runs world past l (HasEvent p side_event) has_event row r = elim (cases_lt p 2) [
  | inl below ↦ side_event_runs world past l p side_event below has_event row r
  | inr above ↦ runs_alike world past l
      (λ q below. side_is past l (HasEvent p side_event) q has_event ∙ there_is p q (side_after side_event (side_of past q)) (side_of past q) (λ e. absurd (omega arith)))
      (λ q below. log_is past l (HasEvent p side_event) q has_event ∙ there_is p q (log_after (log_of past q) (log_of past (1 - q)) (side_of past q) side_event) (log_of past q) (λ e. absurd (omega arith))) r
]

runs_to : (world : World) (past : List Line) → EachLine (Fine world) past → RunsTo world past
runs_to world [] fine = record { sides = λ q. initial_side; logs = λ q. no_sessions; runs = starts (λ q. initial_side) (λ q. no_sessions) (λ q. refl) (λ q. refl); sides_are = λ q below. refl; logs_are = λ q below. refl }
runs_to world (l ∷ past) fine = line_runs world past l (line_side_event_of l) refl fine.0.0 (runs_to world past fine.1)

pub histories_deliver : HistoriesDeliver
histories_deliver world before after p is lawful one other below =
    let r = runs_to world (reverse before) (at_beginning (Fine world) before after (all_fine world (before ++ after) is lawful)) in
    let o2 = other_below p below in
    subst (λ (x : Side). DeliversInOrder x (side_of (reverse before) (1 - p)) (log_of (reverse before) p) (log_of (reverse before) (1 - p))) (r.sides_are p below)
    (subst (λ (x : Side). DeliversInOrder (r.sides p) x (log_of (reverse before) p) (log_of (reverse before) (1 - p))) (r.sides_are (1 - p) o2)
    (subst (λ (x : Log). DeliversInOrder (r.sides p) (r.sides (1 - p)) x (log_of (reverse before) (1 - p))) (r.logs_are p below)
    (subst (λ (x : Log). DeliversInOrder (r.sides p) (r.sides (1 - p)) (r.logs p) x) (r.logs_are (1 - p) o2) (machine world.queue (is_link world) r.sides r.logs one other r.runs p below))))
