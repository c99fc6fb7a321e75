use Rattle.std.proofs.Common.{◌∷◌, [], ◌++◌, ap, ◌∙◌, subst}
use Rattle.scenario_text.specs.Spelling.{world_of}
use Rattle.shared_words.specs.Passes.{held}
use Rattle.peer_runner.specs.Drives.{IsPlanFor}
use Rattle.shared_words.proofs.ScenarioRoutes.{routes_made}
use Rattle.peer_runner.proofs.RangesRun.{plan_may, ran_one}
use Rattle.peer_runner.proofs.peers.run_one.Goals as goal

pub drive-requires-clause-drives : goal.drive-requires-clause-drives
drive-requires-clause-drives g c = plan_may _ _ _ _ (subst (IsPlanFor (world_of c.args.scenario.now) c.args.me) c.in-Some.is c.in_ok-plan.ensures) c.requires.made

pub drive-requires-clause-routes : goal.drive-requires-clause-routes
drive-requires-clause-routes g c = routes_made _ _ _ c.requires.made (subst (IsPlanFor (world_of c.args.scenario.now) c.args.me) c.in-Some.is c.in_ok-plan.ensures).routed

pub returns : goal.returns
returns g c = let d = c.in_ok-trace.ensures in let world = world_of c.args.scenario.now in let is = subst (IsPlanFor world c.args.me) c.in-Some.is c.in_ok-plan.ensures in (
  d.0,
  d.1 ∙ ap (λ p. held c.args.pass.now.table_id p (d.0 ∷ [])) is.peer,
  ran_one world c.args.words.now.shared.key c.args.me c.in-Some.plan d.0 c.in_ok-trace.trace c.push.new.self.items is (c.in_ok-push.ensures.items ∙ ap (λ ts. ts ++ c.in_ok-trace.trace ∷ []) c.new-traces.ensures.items) (d.2.0, d.2.2),
)
