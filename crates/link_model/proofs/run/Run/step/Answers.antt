use Rattle.std.proofs.Common.{◌≡◌, ℕ, ◌+◌, List, [], ◌∷◌, ◌++◌, length, length-append, arith, ap, subst, sym}
use Rattle.std.specs.Prelude.{Option}
use Rattle.lawful_history.specs.declared.line.Line.{Line}
use Rattle.link_model.specs.declared.fault.StepFault.{StepFault}
use Rattle.link_model.specs.ScenarioParts.{world_of_parts}
use Rattle.link_model.specs.ExpectedRun.{IsGoing}
use Rattle.link_model.proofs.RunViews.{one_more, seen_begins, seen_cause}
use Rattle.link_model.proofs.run.Run.step.Goals as goal

-- The number of the line after one more.
one_counted : (lines : List Line) (line : Line) (next after : ℕ) → next ≡ length lines + 1 → after ≡ next + 1 → after ≡ length (lines ++ line ∷ []) + 1
one_counted lines line next after number more = omega (arith, length-append lines (line ∷ []))

pub invariant_of-self-in-Ok : goal.invariant_of-self-in-Ok
invariant_of-self-in-Ok c =
    let going = subst (λ (o : Option StepFault). IsGoing o c.self.inside.next c.self.inside.expected_run) c.in_default.is c.self.invariant in
    subst (λ (o : Option StepFault). IsGoing o c.in-Some-checked_add.after c.take.new.self) (sym c.in_default.is)
    (going.0 ++ c.args.line.now ∷ [], c.in-Ok.ensures.on going.0 going.1, one_counted going.0 c.args.line.now c.self.inside.next c.in-Some-checked_add.after going.2 c.in-Some-checked_add.ensures.1)

pub returns-in-Ok-clause-taken : goal.returns-in-Ok-clause-taken
returns-in-Ok-clause-taken c =
    let going = subst (λ (o : Option StepFault). IsGoing o c.self.inside.next c.self.inside.expected_run) c.in_default.is c.self.invariant in
    one_more c.self.inside.expected_run c.take.new.self c.self.inside.next c.in-Some-checked_add.after c.self.inside.fault going.0 c.args.line.now c.args.self.now c.self.view_is going.1 going.2
    (c.in-Ok.ensures.on going.0 going.1) (one_counted going.0 c.args.line.now c.self.inside.next c.in-Some-checked_add.after going.2 c.in-Some-checked_add.ensures.1) (ap world_of_parts c.in-Ok.ensures.scenario) c.in-Ok.ensures.version

pub returns-in-Ok-clause-lawful : goal.returns-in-Ok-clause-lawful
returns-in-Ok-clause-lawful c =
    let going = subst (λ (o : Option StepFault). IsGoing o c.self.inside.next c.self.inside.expected_run) c.in_default.is c.self.invariant in
    seen_begins c.records_hold_one_history.ensures.one c.records_hold_one_history.ensures.recorded c.take.new.self c.in-Some-checked_add.after (going.0 ++ c.args.line.now ∷ []) (c.in-Ok.ensures.on going.0 going.1)
    (one_counted going.0 c.args.line.now c.self.inside.next c.in-Some-checked_add.after going.2 c.in-Some-checked_add.ensures.1)

pub returns-in-Err-clause-cause : goal.returns-in-Err-clause-cause
returns-in-Err-clause-cause c = λ none.
    let going = subst (λ (o : Option StepFault). IsGoing o c.self.inside.next c.self.inside.expected_run) c.in_default.is c.self.invariant in
    seen_cause c.self.inside.expected_run c.self.inside.next c.self.inside.fault going.0 c.args.line.now c.args.self.now c.in-Err.fault c.self.view_is going.1 going.2 (c.in-Err.ensures.cause going.0 going.1 going.2)
