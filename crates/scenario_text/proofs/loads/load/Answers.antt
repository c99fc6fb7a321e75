use Rattle.std.proofs.Common.{◌∙◌, sym, subst}
use Rattle.std.proofs.lemmas.Result.{IfOk-weaker}
use Rattle.scenario_text.specs.Scenario.{World, IsWorld}
use Rattle.scenario_text.proofs.LoadIsScenario.{load_is_world, load_made}
use Rattle.scenario_text.proofs.loads.load.Goals as goal

pub link_scenario-requires : goal.link_scenario-requires
link_scenario-requires c = subst (λ (w : World). IsWorld w) (sym (load_made c.in_ok-acts.acts c.args.count c.in_ok-acts.ensures)) (load_is_world c.args.count c.requires.few)

pub returns : goal.returns
returns c = IfOk-weaker c.link_scenario.result _ _ (λ scenario is. is ∙ load_made c.in_ok-acts.acts c.args.count c.in_ok-acts.ensures) c.link_scenario.ensures
