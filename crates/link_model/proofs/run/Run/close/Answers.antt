use Rattle.std.proofs.Common.{ℕ, List, subst}
use Rattle.std.specs.Prelude.{Option, OnOk, IfErr}
use Rattle.scenario_text.specs.Scenario.{World}
use Rattle.lawful_history.specs.declared.line.Line.{Line}
use Rattle.lawful_history.specs.Lawful.{IsLawfulIn}
use Rattle.link_model.specs.declared.fault.StepFault.{StepFault}
use Rattle.link_model.specs.Difference.{Differs}
use Rattle.link_model.specs.ExpectedRun.{IsGoing, world_in}
use Rattle.link_model.proofs.RunViews.{seen_as, ok_part, err_part}
use Rattle.link_model.proofs.run.Run.close.Goals as goal

pub returns-in-None-clause-whole : goal.returns-in-None-clause-whole
returns-in-None-clause-whole c =
    let going = subst (λ (o : Option StepFault). IsGoing o c.self.inside.next c.self.inside.expected_run) c.in-None.is c.self.invariant in
    seen_as (λ (w : World) (v : ℕ) (ls : List Line). OnOk c.close.result (IsLawfulIn w v ls)) c.self.inside.expected_run c.self.inside.next c.self.inside.fault going.0 c.args.self.now c.self.view_is going.1 going.2
    (ok_part c.close.result (IsLawfulIn (world_in c.self.inside.expected_run) c.self.inside.expected_run.version going.0) (Differs (world_in c.self.inside.expected_run) c.self.inside.expected_run.version going.0) (c.close.ensures going.0 going.1 going.2))

pub returns-in-None-clause-missing : goal.returns-in-None-clause-missing
returns-in-None-clause-missing c = λ none.
    let going = subst (λ (o : Option StepFault). IsGoing o c.self.inside.next c.self.inside.expected_run) c.in-None.is c.self.invariant in
    seen_as (λ (w : World) (v : ℕ) (ls : List Line). IfErr c.close.result (Differs w v ls)) c.self.inside.expected_run c.self.inside.next c.self.inside.fault going.0 c.args.self.now c.self.view_is going.1 going.2
    (err_part c.close.result (IsLawfulIn (world_in c.self.inside.expected_run) c.self.inside.expected_run.version going.0) (Differs (world_in c.self.inside.expected_run) c.self.inside.expected_run.version going.0) (c.close.ensures going.0 going.1 going.2))
