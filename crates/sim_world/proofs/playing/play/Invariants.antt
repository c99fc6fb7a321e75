use Rattle.std.proofs.Common.{take}
use Rattle.lawful_history.specs.Schedule.{schedule}
use Rattle.lawful_history.specs.Sides.{world_of}
use Rattle.sim_world.specs.Playing.{HasReceived}
use Rattle.sim_world.proofs.playing.play.Given as goal

abbrev pub invariant-loop-act : goal.invariant-loop-act
invariant-loop-act g l = HasReceived (world_of l.scenario) l.version (g.L.Listener.received l.fn.listener l.listener) (schedule (take l.act-index l.scenario.acts)) l.simulator
