-- The history state that the simulator represents, by its region, its record and its peer states.
use Rattle.std.specs.Prelude.{ℕ, ◌≡◌, ◌+◌, ◌≤◌, ◌<◌, Some, List, [], ◌∷◌, ◌++◌, length, map, replicate, reverse, slice_get, slice_index}
use Rattle.std.specs.List.{AllByRecursion}
use Rattle.section_map.specs.Geometry.{Shape, word_count}
use Rattle.section_map.specs.MayWrite.{MayWrite}
use Rattle.split_ring.specs.declared.steps.Access.{Access}
use Rattle.split_ring.specs.declared.steps.Access.TheVariants as access
use Rattle.port_text.specs.declared.limits.TheConstants.{MOST_TURNS}
use Rattle.port_text.specs.Scenario.{World, IsWorld, IsAllowed}
use Rattle.port_text.specs.declared.acts.Act.{Act}
use Rattle.port_text.specs.Acts.{cost}
use Rattle.sampling_port.specs.declared.peer_state.Call.{Call}
use Rattle.sampling_port.specs.declared.peer_state.Call.TheVariants as waiting
use Rattle.sampling_port.specs.declared.peer_state.PeerState as sits
use Rattle.sampling_port.specs.declared.world_state.Record as kept
use Rattle.sampling_port.specs.declared.world_state.WorldState.{WorldState}
use Rattle.sampling_port.specs.declared.simulator.Simulator.{Simulator}
use Rattle.sampling_port.specs.Views.{IsPort}
use Rattle.sampling_port.specs.Schedule.{PortCall, Publish, Sample, Event, CallQueued, TurnTaken, Poked, events_of}
use Rattle.sampling_port.specs.EventRecords.{Line}
use Rattle.sampling_port.specs.Memory.{last_write}
use Rattle.sampling_port.specs.Record.{text_of_lines}
use Rattle.sampling_port.specs.History.{PeerState, initial_state, history_state_after}

-- The call of the grammar that a waiting call is.
abbrev pub call_of : Call → PortCall
call_of (waiting.Publish message) = Publish message
call_of (waiting.Sample from) = Sample from

-- The peer state of the computed history that a peer state refines.
abbrev pub peer_state_of : sits.PeerState → PeerState
peer_state_of peer_state = record { port = peer_state.port; waiting = map call_of peer_state.waiting.items }

-- Each word has the value written last; the lines are listed newest first.
abbrev pub Holds : List ℕ → List Line → Type 0
Holds words past = (word : ℕ) → word < length words → slice_index words word ≡ last_write past word

-- The record has these lines after the text `front`.
pub record RecordAfter (front : List ℕ) (past : List Line) (recorded : kept.Record) : Type 0 where
  pub text : recorded.text.items ≡ front ++ text_of_lines (reverse past)
  pub count : recorded.count ≡ length past

pub record WorldStateAfter (front : List ℕ) (past : List Line) (world_state : WorldState) : Type 0 where
  pub words : Holds world_state.region.words past
  pub recorded : RecordAfter front past world_state.recorded

-- A step of a port reads a word of the region, or writes one that its peer may write.
abbrev pub CanPerform : Shape → ℕ → Access → Type 0
CanPerform g me (access.Read word) = word < word_count g
CanPerform g me (access.Write word value) = MayWrite g me word
CanPerform g me _ = ⊥

-- The calls that a port may make.
abbrev pub IsPermittedCall : World → PortCall → Type 0
IsPermittedCall world (Publish message) = (1 ≤ length message) × (length message ≤ world.most)
IsPermittedCall world (Sample from) = from < world.geometry.peers

-- The event is of a peer of the world, and its call is one that the port may make.
abbrev pub IsPermittedEvent : World → Event → Type 0
IsPermittedEvent world (CallQueued peer call) = (peer < world.geometry.peers) × IsPermittedCall world call
IsPermittedEvent world (TurnTaken peer) = peer < world.geometry.peers
IsPermittedEvent world (Poked peer word value) = peer < world.geometry.peers

-- The simulator refines the history state after these events.
pub record RunsTo (world : World) (front : List ℕ) (events : List Event) (simulator : Simulator) : Type 0 where
  pub is_world : IsWorld world
  pub there : AllByRecursion (IsPermittedEvent world) events
  pub few : length events ≤ MOST_TURNS
  pub shape : simulator.world_state.region.shape ≡ world.geometry
  pub after : WorldStateAfter front (history_state_after world events).past simulator.world_state
  pub count : length simulator.peer_states.items ≡ world.geometry.peers
  pub peer_states : (p : ℕ) (peer_state : sits.PeerState) → slice_get simulator.peer_states.items p ≡ Some peer_state → peer_state_of peer_state ≡ (history_state_after world events).peer_states p

-- `count` initial peer states.
pub record AreAtStart (world : World) (count : ℕ) (peer_states : List sits.PeerState) : Type 0 where
  pub length_is : length peer_states ≡ count
  pub fresh : (p : ℕ) (peer_state : sits.PeerState) → slice_get peer_states p ≡ Some peer_state → peer_state_of peer_state ≡ (initial_state world).peer_states p

-- The event happens: if the simulator refines the state after any events, the new one refines the
-- state after them and this event.
abbrev pub Happens : Event → Simulator → Simulator → Type 0
Happens event old new = (world : World) (front : List ℕ) (events : List Event) → IsPermittedEvent world event → length events < MOST_TURNS
    → RunsTo world front events old → RunsTo world front (events ++ event ∷ []) new

-- The events of the act happen.
abbrev pub Plays : Act → Simulator → Simulator → Type 0
Plays act old new = (world : World) (front : List ℕ) (events : List Event) → IsAllowed world act → length events + cost act ≤ MOST_TURNS
    → RunsTo world front events old → RunsTo world front (events ++ events_of act) new

-- The simulator refines the state after some events, in a world that has the peer, and `more`
-- further events may happen.
abbrev pub IsRunning : Simulator → (peer more : ℕ) → Type 0
IsRunning simulator peer more = (world : World) × (front : List ℕ) × (events : List Event) × RunsTo world front events simulator
    × (peer < world.geometry.peers) × (length events + more ≤ MOST_TURNS)

-- `steps` turns of the peer happen.
abbrev pub Turns : (peer steps : ℕ) → Simulator → Simulator → Type 0
Turns peer steps old new = (world : World) (front : List ℕ) (events : List Event) → IsPermittedEvent world (TurnTaken peer) → length events + steps ≤ MOST_TURNS
    → RunsTo world front events old → RunsTo world front (events ++ replicate steps (TurnTaken peer)) new

-- The simulator refines the state after some events, in a world that allows the act, and the act's
-- events may happen.
abbrev pub MayPlay : Simulator → Act → Type 0
MayPlay simulator act = (world : World) × (front : List ℕ) × (events : List Event) × RunsTo world front events simulator × IsAllowed world act
    × (length events + cost act ≤ MOST_TURNS)

-- The conditions of a peer's next turn: its port is one of the region, and it may make the calls
-- that wait.
pub record IsReady (world : World) (me : ℕ) (peer_state : PeerState) : Type 0 where
  pub port : IsPort peer_state.port
  pub shape : peer_state.port.shape ≡ world.geometry
  pub me_is : peer_state.port.me ≡ me
  pub most : peer_state.port.most ≡ world.most
  pub waiting : AllByRecursion (IsPermittedCall world) peer_state.waiting
  pub numbers : peer_state.port.published + length peer_state.waiting ≤ MOST_TURNS
