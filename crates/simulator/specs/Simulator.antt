-- The history state that the simulator represents, by its world state and its peer states.
use Rattle.std.specs.Prelude.{ℕ, ◌≡◌, ◌<◌, List, [], ◌∷◌, ◌++◌, Some, length, slice_get}
use Rattle.std.specs.List.{AllByRecursion}
use Rattle.scenario_text.specs.declared.acts.Act.{Act}
use Rattle.scenario_text.specs.Scenario.{World, is_link, IsAllowed}
use Rattle.lawful_history.specs.declared.line.Line.{Line}
use Rattle.lawful_history.specs.Schedule.{Event, events_of}
use Rattle.lawful_history.specs.Sides.{config_of}
use Rattle.lawful_history.specs.Peers.{at_start}
use Rattle.lawful_history.specs.History.{HistoryState, run, initial_state, peer_at}
use Rattle.lawful_history.specs.Permitted.{IsPermittedEvent}
use Rattle.simulator.specs.Log.{Output}
use Rattle.simulator.specs.WorldState.{WorldStateAfter, HasPeer}
use Rattle.simulator.specs.PeerStates.{PeerStateRefines, is_honest}
use Rattle.simulator.specs.declared.link.Link.{Link}
use Rattle.simulator.specs.declared.peer_state.PeerState.{PeerState}
use Rattle.simulator.specs.declared.peer_state.PeerState.TheVariants.{Honest}
use Rattle.simulator.specs.declared.simulator.Simulator.{Simulator}

-- The peer is an honest end of the link.
abbrev pub IsLinked : List PeerState → ℕ → Type 0
IsLinked peer_states peer = (link : Link) × (slice_get peer_states peer ≡ Some (Honest link))

-- `count` initial peer states: no peer has a call, and each honest end of the link has its state.
pub record AreAtStart (world : World) (count : ℕ) (peer_states : List PeerState) : Type 0 where
  pub length_is : length peer_states ≡ count
  pub refines : (p : ℕ) (peer_state : PeerState) → slice_get peer_states p ≡ Some peer_state → PeerStateRefines (config_of world p) at_start peer_state
  pub linked : (p : ℕ) (peer_state : PeerState) → slice_get peer_states p ≡ Some peer_state → is_honest peer_state ≡ is_link world p

-- The history state after these events.
abbrev pub history_state_after : World → List Event → HistoryState
history_state_after world events = run world events (initial_state world)

-- The lines of the simulator that were recorded and not drained.
abbrev pub kept_lines : Simulator → List Line
kept_lines s = s.world_state.log.lines

-- The simulator refines the history state after these events, and the lines of `output` were
-- drained.
pub record RunsTo (world : World) (output : Output) (events : List Event) (s : Simulator) : Type 0 where
  pub there : AllByRecursion (IsPermittedEvent world) events
  pub geometry : s.sizes.geometry ≡ world.geometry
  pub queue : s.sizes.queue ≡ world.queue
  pub after : WorldStateAfter world output (history_state_after world events).past (history_state_after world events).losses s.world_state
  pub count : length s.peer_states.items ≡ world.geometry.peers
  pub seated : (p : ℕ) → p < world.geometry.peers → HasPeer s.world_state p
  pub refines : (p : ℕ) (peer_state : PeerState) → slice_get s.peer_states.items p ≡ Some peer_state → PeerStateRefines (config_of world p) (peer_at (history_state_after world events) p) peer_state
  pub linked : (p : ℕ) (peer_state : PeerState) → slice_get s.peer_states.items p ≡ Some peer_state → is_honest peer_state ≡ is_link world p

-- The event happens: if the simulator refines the state after any events, the new one refines the
-- state after them and this event.
abbrev pub Happens : Event → Simulator → Simulator → Type 0
Happens event old new = (world : World) (output : Output) (events : List Event) → IsPermittedEvent world event → RunsTo world output events old
    → RunsTo world output (events ++ event ∷ []) new

-- The simulator refines the state after some events, in a world that has the peer.
abbrev pub IsRunning : Simulator → ℕ → Type 0
IsRunning s peer = (world : World) × (output : Output) × (events : List Event) × RunsTo world output events s × (peer < world.geometry.peers)

-- The act is one of the world's.
abbrev pub IsAct : World → Act → Type 0
IsAct world act = (before : List Act) × IsAllowed world before act

-- The events of the act happen. If the simulator refines the state after some events, the new
-- simulator refines the state after them and the events of the act.
abbrev pub PlaysAct : Act → Simulator → Simulator → Type 0
PlaysAct act old new = (world : World) (output : Output) (events : List Event) → IsAct world act → RunsTo world output events old
    → RunsTo world output (events ++ events_of act) new
