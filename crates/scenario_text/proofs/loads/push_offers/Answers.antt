use Rattle.scenario_text.proofs.LoadIsScenario.{no_offers, one_more}
use Rattle.scenario_text.proofs.loads.push_offers.Goals as goal

pub loop-number-init : goal.loop-number-init
loop-number-init c = no_offers c.args.acts.now

pub loop-number-preserved : goal.loop-number-preserved
loop-number-preserved c =
    one_more c.loop-number.acts c.args.acts.now c.push.new.self c.loop-number.number c.in_ok-frame.frame
    c.loop-number.invariant c.in_ok-frame.ensures c.in_ok-push.ensures.ok
