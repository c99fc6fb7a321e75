use Rattle.std.proofs.Common.{[], ◌∙◌, ap, refl, subst, sym}
use Rattle.scenario_text.specs.Scenario.{World}
use Rattle.simulator.specs.Log.{no_output}
use Rattle.simulator.specs.Simulator.{RunsTo}
use Rattle.link_model.specs.ScenarioParts.{world_of_parts}
use Rattle.link_model.proofs.PlayedActs.{at_first}
use Rattle.link_model.proofs.expected_run.ExpectedRun.new.Goals as goal

pub returns : goal.returns
returns c =
    let runs = subst (λ (w : World). RunsTo w (no_output c.args.version) [] c.in_ok-new.field-0) (sym c.parts_of.ensures) c.in_ok-new.ensures in
    (c.in_ok-settle.ensures.on [] (at_first _ runs refl refl refl), ap world_of_parts c.in_ok-settle.ensures.scenario ∙ c.parts_of.ensures, c.in_ok-settle.ensures.version)
