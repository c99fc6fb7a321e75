use Rattle.lawful_history.specs.Sides.{world_of}
use Rattle.simulator.specs.Simulator.{AreAtStart}
use Rattle.simulator.proofs.simulator.peer_states_of.Given as goal

abbrev pub invariant-loop-peer : goal.invariant-loop-peer
invariant-loop-peer l = AreAtStart (world_of l.scenario) l.peer l.peer_states.items
