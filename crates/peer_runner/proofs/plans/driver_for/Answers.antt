use Rattle.std.proofs.Common.{rules}
use Rattle.scenario_text.specs.Spelling.{world_of}
use Rattle.peer_runner.proofs.PlansFromActs.{auto_driver, storm_driver}
use Rattle.peer_runner.proofs.plans.driver_for.Goals as goal

pub returns-then-not-is_link : goal.returns-then-not-is_link
returns-then-not-is_link c = storm_driver (world_of c.args.scenario.now) c.args.me _ c.args.scenario.now.world c.requires.running c.requires.turns (search rules) c.requires.there c.seed_for.ensures

pub returns : goal.returns
returns c = auto_driver (world_of c.args.scenario.now) c.args.me _ _ _ c.args.scenario.now.world c.requires.running c.requires.turns (search rules) c.traffic_vector-vector.ensures.vector c.in_ok-auto.ensures c.in_ok-end.ensures.refines
