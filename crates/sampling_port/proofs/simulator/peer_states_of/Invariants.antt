use Rattle.port_text.specs.Spelling.{world_of}
use Rattle.sampling_port.specs.Simulator.{AreAtStart}
use Rattle.sampling_port.proofs.simulator.peer_states_of.Given as goal

abbrev pub invariant-loop-peer : goal.invariant-loop-peer
invariant-loop-peer l = AreAtStart (world_of l.scenario) l.peer l.peer_states.items
