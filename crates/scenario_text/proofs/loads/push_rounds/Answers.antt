use Rattle.scenario_text.proofs.LinkIsScenario.{no_rounds, rounds_more}
use Rattle.scenario_text.proofs.loads.push_rounds.Goals as goal

pub loop-init : goal.loop-init
loop-init c = no_rounds c.args.steps c.args.acts.now

pub loop-preserved : goal.loop-preserved
loop-preserved c =
    rounds_more c.args.steps c.loop.acts c.push.new.self c.args.acts.now c.push-in-loop.new.self c.loop.counter
    c.loop.invariant c.in_ok-push.ensures.ok c.in_ok-push-2.ensures.ok
