-- The view of a run.
use Rattle.std.proofs.Common.{◌≡◌, ℕ, ◌+◌, ◌-◌, List, ◌∷◌, [], ◌++◌, length, take, sym, ◌∙◌, ap, subst}
use Rattle.std.specs.Prelude.{Option, Result, Ok, Err, OnOk, IfErr, MatchResult}
use Rattle.scenario_text.specs.Scenario.{World}
use Rattle.lawful_history.specs.declared.line.Line.{Line}
use Rattle.lawful_history.specs.Lawful.{HasOneHistoryIn}
use Rattle.lawful_history.specs.History.{HistoryIsLawfulIn}
use Rattle.link_model.specs.declared.expected_run.ExpectedRun.{ExpectedRun}
use Rattle.link_model.specs.declared.fault.StepFault.{StepFault}
use Rattle.link_model.specs.Difference.{Begins}
use Rattle.link_model.specs.Taken.{Taking, IsCause}
use Rattle.link_model.specs.ExpectedRun.{world_in, recorded_of, GoesOn}
use Rattle.link_model.proofs.HistoryContinues.{begins, counted}

-- The view of an expected run after which the line with this number comes next.
abbrev pub seen : ExpectedRun → ℕ → Option StepFault → Taking
seen c next fault = record { world = world_in c; version = c.version; lines = take (next - 1) (recorded_of c); fault = fault }

abbrev taking : World → (version : ℕ) → List Line → Option StepFault → Taking
taking world version lines fault = record { world = world; version = version; lines = lines; fault = fault }

-- One line more is seen.
pub one_more : (c c' : ExpectedRun) (next next' : ℕ) (fault : Option StepFault) (lines : List Line) (line : Line) (now : Taking) → seen c next fault ≡ now → GoesOn lines c → next ≡ length lines + 1 →
    GoesOn (lines ++ line ∷ []) c' → next' ≡ length (lines ++ line ∷ []) + 1 → world_in c' ≡ world_in c → c'.version ≡ c.version → seen c' next' fault ≡ record now { lines = now.lines ++ line ∷ [] }
one_more c c' next next' fault lines line now is goes number goes' number' world version =
    let lines_are : take (next' - 1) (recorded_of c') ≡ take (next - 1) (recorded_of c) ++ line ∷ [] =
    counted (lines ++ line ∷ []) c' next' goes' number' ∙ ap (λ ls. ls ++ line ∷ []) (sym (counted lines c next goes number)) in
    subst (λ (t : Taking). seen c' next' fault ≡ record t { lines = t.lines ++ line ∷ [] }) is
    (ap (λ w. taking w c'.version (take (next' - 1) (recorded_of c')) fault) world ∙ ap (λ v. taking (world_in c) v (take (next' - 1) (recorded_of c')) fault) version ∙ ap (λ ls. taking (world_in c) c.version ls fault) lines_are)

-- The lines that are seen begin each lawful history.
pub seen_begins : HasOneHistoryIn → HistoryIsLawfulIn → (c : ExpectedRun) (next : ℕ) (lines : List Line) → GoesOn lines c → next ≡ length lines + 1 → Begins (world_in c) c.version (take (next - 1) (recorded_of c))
seen_begins one exists c next lines goes number = subst (λ ls. Begins (world_in c) c.version ls) (sym (counted lines c next goes number)) (begins one exists lines c goes)

-- The cause of a fault is one of the lines that are seen.
pub seen_cause : (c : ExpectedRun) (next : ℕ) (fault : Option StepFault) (lines : List Line) (line : Line) (now : Taking) (why : StepFault) → seen c next fault ≡ now → GoesOn lines c → next ≡ length lines + 1 →
    IsCause (world_in c) c.version (lines ++ line ∷ []) why → IsCause now.world now.version (now.lines ++ line ∷ []) why
seen_cause c next fault lines line now why is goes number cause =
    subst (λ (t : Taking). IsCause t.world t.version (t.lines ++ line ∷ []) why) is
    (subst (λ ls. IsCause (world_in c) c.version (ls ++ line ∷ []) why) (sym (counted lines c next goes number)) cause)

-- So are the lines that are a whole history.
pub seen_as : (P : World → ℕ → List Line → Type 0) (c : ExpectedRun) (next : ℕ) (fault : Option StepFault) (lines : List Line) (now : Taking) → seen c next fault ≡ now → GoesOn lines c → next ≡ length lines + 1 →
    P (world_in c) c.version lines → P now.world now.version now.lines
seen_as P c next fault lines now is goes number holds =
    subst (λ (t : Taking). P t.world t.version t.lines) is (subst (λ ls. P (world_in c) c.version ls) (sym (counted lines c next goes number)) holds)

pub ok_part : {T E : Type 0} (r : Result T E) (P : Type 0) (Q : E → Type 0) → MatchResult r (λ _. P) Q → OnOk r P
ok_part (Ok t) P Q holds = holds
ok_part (Err e) P Q holds = tt

pub err_part : {T E : Type 0} (r : Result T E) (P : Type 0) (Q : E → Type 0) → MatchResult r (λ _. P) Q → IfErr r Q
err_part (Ok t) P Q holds = tt
err_part (Err e) P Q holds = holds
