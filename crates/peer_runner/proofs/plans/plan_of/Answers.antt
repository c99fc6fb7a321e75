use Rattle.std.proofs.Common.{refl, sym, ◌∙◌}
use Rattle.scenario_text.specs.Spelling.{world_of}
use Rattle.peer_runner.proofs.PlansFromActs.{some_turns, no_turns, few_turns}
use Rattle.peer_runner.proofs.plans.plan_of.Goals as goal

pub returns-then-is_empty : goal.returns-then-is_empty
returns-then-is_empty c = no_turns _ _ c.items.result.now (c.items.ensures ∙ c.in_ok-spans.ensures) (sym c.is_empty.ensures ∙ c.if-is_empty.true)

pub driver_for-requires-clause-turns : goal.driver_for-requires-clause-turns
driver_for-requires-clause-turns c = some_turns _ _ c.items.result.now (c.items.ensures ∙ c.in_ok-spans.ensures) (sym c.is_empty.ensures ∙ c.if-is_empty.false)

pub returns : goal.returns
returns c = record {
  runs = some_turns _ _ c.items.result.now (c.items.ensures ∙ c.in_ok-spans.ensures) (sym c.is_empty.ensures ∙ c.if-is_empty.false);
  peer = refl;
  spans = c.in_ok-spans.ensures;
  few = few_turns (world_of c.args.scenario.now) c.args.me _ c.args.scenario.now.world c.requires.running c.in_ok-spans.ensures;
  driver = c.in_ok-driver.ensures;
  routed = c.routes_of.ensures;
}
