-- The marks of sessions are paid for, each by the write of State 3 before it.
use Rattle.std.proofs.Common.{◌≡◌, ℕ, ◌+◌, ◌≤◌, Bool, true, false, List, [], ◌∷◌, ◌++◌, length, refl, ap, ◌∙◌, arith, decimal}
use Rattle.std.specs.Prelude.{◌==◌, ◌&&◌, if◌then◌else◌}
use Rattle.std.proofs.lemmas.Bool.{eqb-true}
use Rattle.line_format.proofs.SpellingsAreRead.{both_true}
use Rattle.scenario_text.specs.Scenario.{World, is_link}
use Rattle.lawful_history.specs.declared.line.Line.{Line}
use Rattle.lawful_history.specs.declared.line.Line.TheVariants as line
use Rattle.lawful_history.specs.Sides.{partner}
use Rattle.lawful_history.specs.Sessions.{opened_in, is_interrupt, enters_run, session_mark, marks_before, with_sessions}
use Rattle.record_sizes.proofs.LineBytes.{lines_bytes, mark_room, mark_bytes, lines_cost}
use Rattle.record_sizes.proofs.EventsPay.{AreFitting, parts_fit}

-- The credit of the newest line, except interrupts.
abbrev paid_by : List Line → ℕ
paid_by [] = 0
paid_by (recorded ∷ older) = if is_interrupt recorded then paid_by older else mark_room recorded

-- A mark at this position has its room.
state_pays : (p value peer : ℕ) → (p == peer && value == 3) ≡ true → mark_room (line.State p value) ≡ 31 + length (decimal peer)
state_pays p value peer is =
    let both = both_true (p == peer) (value == 3) is in
    ap (λ (b : Bool). if b then 31 + length (decimal p) else 0) both.1 ∙ ap (λ (q : ℕ). 31 + length (decimal q)) (eqb-true p peer both.0)

entered_pays : (older : List Line) (peer : ℕ) → enters_run older peer ≡ true → paid_by older ≡ 31 + length (decimal peer)
entered_pays [] peer is = absurd cc
entered_pays (line.Interrupt p vector ∷ older) peer is = entered_pays older peer is
entered_pays (line.Lost p vector ∷ older) peer is = entered_pays older peer is
entered_pays (line.State p value ∷ older) peer is = state_pays p value peer is
entered_pays (_ ∷ older) peer is = absurd cc

mark_paid : (world : World) (older : List Line) (peer : ℕ) (b : Bool) → (b ≡ true → enters_run older peer ≡ true) →
    AreFitting (if b then session_mark world older peer ∷ [] else []) →
    lines_bytes (if b then session_mark world older peer ∷ [] else []) ≤ paid_by older
mark_paid world older peer true enters fits =
    let one = mark_bytes peer (opened_in older peer) (if is_link world (partner peer) then opened_in older (partner peer) else 0) fits.0 in
    omega (arith, one, entered_pays older peer (enters refl))
mark_paid world older peer false enters fits = omega arith

marks_paid : (world : World) (older : List Line) (recorded : Line) → AreFitting (marks_before world older recorded) →
    lines_bytes (marks_before world older recorded) + paid_by (recorded ∷ older) ≤ paid_by older + mark_room recorded
marks_paid world older (line.Over peer) fits =
    let enters = is_link world peer && enters_run older peer in
    let here = mark_paid world older peer enters (λ is. (both_true (is_link world peer) (enters_run older peer) is).1) fits in omega arith
marks_paid world older (line.Interrupt peer vector) fits = omega arith
marks_paid world older (line.Lost peer vector) fits = omega arith
marks_paid world older _ fits = omega arith

bytes-append : (lines others : List Line) → lines_bytes (lines ++ others) ≡ lines_bytes lines + lines_bytes others
bytes-append [] others = omega arith
bytes-append (recorded ∷ lines) others = let later = bytes-append lines others in omega arith

with_paid : (world : World) (older lines : List Line) → AreFitting (with_sessions world older lines) →
    lines_bytes (with_sessions world older lines) ≤ paid_by older + lines_cost lines
with_paid world older [] fits = omega arith
with_paid world older (recorded ∷ lines) fits =
    let marks = marks_before world older recorded in
    let parts = parts_fit marks (recorded ∷ with_sessions world (recorded ∷ older) lines) fits in
    let here = marks_paid world older recorded parts.0 in
    let later = with_paid world (recorded ∷ older) lines parts.1.1 in
    omega (arith, bytes-append marks (recorded ∷ with_sessions world (recorded ∷ older) lines), here, later)

without_paid : (lines : List Line) → lines_bytes lines ≤ lines_cost lines
without_paid [] = omega arith
without_paid (recorded ∷ lines) = let later = without_paid lines in omega arith

-- The lines are those between the marks.
between_fit : (world : World) (older lines : List Line) → AreFitting (with_sessions world older lines) → AreFitting lines
between_fit world older [] fits = tt
between_fit world older (recorded ∷ lines) fits =
    let parts = parts_fit (marks_before world older recorded) (recorded ∷ with_sessions world (recorded ∷ older) lines) fits in
    (parts.1.0, between_fit world (recorded ∷ older) lines parts.1.1)

-- A record's lines of a history cost at most as much as the history.
pub record IsPaid (lines recorded : List Line) : Type 0 where
  pub fits : AreFitting lines
  pub few : lines_bytes recorded ≤ lines_cost lines

pub recorded_paid : (world : World) (lines : List Line) (b : Bool) → AreFitting (if b then with_sessions world [] lines else lines) →
    IsPaid lines (if b then with_sessions world [] lines else lines)
recorded_paid world lines true fits =
    let paid = with_paid world [] lines fits in
    record { fits = between_fit world [] lines fits; few = omega (arith, paid) }
recorded_paid world lines false fits = record { fits = fits; few = without_paid lines }
