use Rattle.scenario_text.specs.Spelling.{world_of}
use Rattle.scenario_text.proofs.RunningForm.{all_below, below}
use Rattle.scenario_text.proofs.running.not_running.Goals as goal

pub of-ends-requires : goal.of-ends-requires
of-ends-requires c = all_below (world_of c.args.scenario.now) c.items-acts.result.now c.args.scenario.now.world c.items-acts.ensures

pub add-requires : goal.add-requires
add-requires c = below c.items-acts.result.now c.loop-k.k c.index-acts-k.result (all_below (world_of c.args.scenario.now) c.items-acts.result.now c.args.scenario.now.world c.items-acts.ensures) (c.loop-k-test.true) c.index-acts-k.is
