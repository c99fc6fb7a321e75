use Rattle.std.proofs.Common.{refl}
use Rattle.scenario_text.proofs.LoadIsScenario.{frames_length}
use Rattle.scenario_text.proofs.loads.acts.Goals as goal

pub returns : goal.returns
returns c = rw (c.in_ok-push_rounds.ensures, c.in_ok-push_offers.ensures, c.in_ok-push-2.ensures.ok, c.in_ok-push.ensures.ok, c.new-acts.ensures, c.from.ensures, frames_length c.args.count) refl
