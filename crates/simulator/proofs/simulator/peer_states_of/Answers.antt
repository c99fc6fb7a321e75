use Rattle.lawful_history.specs.Sides.{world_of}
use Rattle.simulator.proofs.OneMoreEvent.{one_peer_state}
use Rattle.simulator.proofs.simulator.peer_states_of.Goals as goal

pub loop-peer-preserved : goal.loop-peer-preserved
loop-peer-preserved c =
    rw c.in_ok-push.ensures.items (one_peer_state (world_of c.args.scenario.now) c.loop-peer.peer c.loop-peer.peer_states.items c.in_ok-peer_state_of.field-0 c.loop-peer.invariant c.in_ok-peer_state_of.ensures.refines c.in_ok-peer_state_of.ensures.linked)
