use Rattle.std.proofs.Common.{◌≡◌, take}
use Rattle.scenario_text.specs.declared.acts.Act.TheVariants.{Auto}
use Rattle.scenario_text.specs.Loads.{load_acts, load_world}
use Rattle.lawful_history.specs.Schedule.{schedule}
use Rattle.sim_world.specs.Playing.{HasReceived}
use Rattle.sim_world.proofs.loads.play_load.Given as goal

abbrev pub invariant-loop-at : goal.invariant-loop-at
invariant-loop-at g l = HasReceived (load_world l.count) 2 (g.L.Listener.received l.fn.listener l.listener) (schedule (take l.at (load_acts l.count))) l.simulator × (l.expecting ≡ Auto 1 l.count)
