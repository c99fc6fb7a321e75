use Rattle.std.proofs.Common.{◌≡◌, get_or, take, subst, refl, arith, List}
use Rattle.scenario_text.specs.declared.acts.Act.{Act}
use Rattle.lawful_history.specs.Schedule.{Event, TurnTaken, schedule}
use Rattle.simulator.specs.Simulator.{RunsTo}
use Rattle.simulator.proofs.OneMoreEvent.{act_at, losses_few}
use Rattle.link_model.specs.ExpectedRun.{world_in}
use Rattle.link_model.proofs.PlayedActs.{no_turns, act_played, turns_noted, one_act_less}
use Rattle.link_model.proofs.expected_run.ExpectedRun.play_act.Goals as goal

pub act-requires : goal.act-requires
act-requires c =
    let expected_run = c.args.self.now in
    let world = world_in expected_run in
    let played = c.requires.played.1 in
    let at = rw c.items.ensures at c.index-items-self.is in
    let before = no_turns played.events _ (TurnTaken expected_run.peer) expected_run.left c.requires.left played.scheduled in (
      world,
      c.requires.played.0,
      schedule (take expected_run.at world.acts),
      subst (λ (es : List Event). RunsTo world c.requires.played.0 es expected_run.simulator) before played.runs,
      act_at world expected_run.at c.index-items-self.result played.runs.after.is_world c.requires.inside at,
      λ p. let few = losses_few world world.acts expected_run.at p in let room = c.requires.room in omega arith,
    )

pub returns-in-Turn-clause-played : goal.returns-in-Turn-clause-played
returns-in-Turn-clause-played c = λ output played.
    let at = rw c.items.ensures at c.index-items-self.is in
    turns_noted output c.args.self.now c.in-Turn.peer c.in-Turn.steps c.requires.left c.requires.inside
    (subst (λ (a : Act). a ≡ get_or (world_in c.args.self.now).acts c.args.self.now.at a) c.in-Turn.is at) played

pub returns-in_ok-act-in_default : goal.returns-in_ok-act-in_default
returns-in_ok-act-in_default c =
    let expected_run = c.args.self.now in
    let acts = (world_in expected_run).acts in
    let inside = c.requires.inside in
    let at = rw c.items.ensures at c.index-items-self.is in
    let less = one_act_less acts expected_run.at c.index-items-self.result inside at in
    record {
      played = λ output played. act_played output expected_run c.index-items-self.result c.act.new.self c.requires.left inside at c.in_ok-act-in_default.ensures played;
      fewer = omega arith;
      passed = refl;
      scenario = refl;
      version = refl;
    }
