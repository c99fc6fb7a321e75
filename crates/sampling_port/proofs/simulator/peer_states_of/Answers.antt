use Rattle.std.proofs.Common.{refl}
use Rattle.port_text.specs.Spelling.{world_of}
use Rattle.sampling_port.proofs.OneMoreEvent.{one_peer_state}
use Rattle.sampling_port.proofs.simulator.peer_states_of.Goals as goal

pub loop-peer-preserved : goal.loop-peer-preserved
loop-peer-preserved c =
    rw c.in_ok-push.ensures.items (one_peer_state (world_of c.args.scenario.now) c.loop-peer.peer c.loop-peer.peer_states.items _ c.loop-peer.invariant (rw (c.in-Ok.ensures.value, c.new-waiting.ensures.items) refl))
