-- The lawful history of a schedule of ports, computed: a function to compare with the relation of
-- `Lawful`.
use Rattle.std.specs.Prelude.{ℕ, ◌+◌, ◌==◌, ◌&&◌, ◌||◌, nat_le, nat_lt, if◌then◌else◌, Bool, true, false, Option, Some, None, List, [], ◌∷◌, ◌++◌, reverse}
use Rattle.section_map.specs.Geometry.{Shape, section_start}
use Rattle.split_ring.specs.declared.steps.Access.{Access}
use Rattle.split_ring.specs.declared.steps.Access.TheVariants as access
use Rattle.port_text.specs.Scenario.{World, IsWorld}
use Rattle.sampling_port.specs.Trees.{PortStep, port_step}
use Rattle.sampling_port.specs.Views.{PortView, fresh_port, is_busy, publishing, sampling, access_at, port_after}
use Rattle.sampling_port.specs.Laws.{step_of_port}
use Rattle.sampling_port.specs.Schedule.{PortCall, Publish, Sample, Event, CallQueued, TurnTaken, Poked, event_peer, schedule}
use Rattle.sampling_port.specs.EventRecords.{Line, EventRecord, lines_of}
use Rattle.sampling_port.specs.Memory.{last_write}
use Rattle.sampling_port.specs.Lawful.{IsLawful}

-- A peer's port, and the calls that wait for it, the oldest first.
pub record PeerState : Type 0 where
  pub port : PortView
  pub waiting : List PortCall

-- The lines so far, the newest first, and the state of each peer.
pub record HistoryState : Type 0 where
  pub past : List Line
  pub peer_states : ℕ → PeerState

-- A turn

abbrev pub opening : PortView → PortCall → PortView
opening port (Publish message) = publishing port message
opening port (Sample from) = sampling port from

-- A peer state after the oldest waiting call was opened, if no call was open.
abbrev pub opened_by : PeerState → Bool → List PortCall → PeerState
opened_by peer_state true waiting = peer_state
opened_by peer_state false [] = peer_state
opened_by peer_state false (call ∷ waiting) = record { port = opening peer_state.port call; waiting = waiting }

abbrev pub opened : PeerState → PeerState
opened peer_state = opened_by peer_state (is_busy peer_state.port) peer_state.waiting

-- The value that an access reads: the one written last.
abbrev pub met : List Line → Access → ℕ
met past (access.Read word) = last_write past word
met past _ = 0

abbrev pub met_by : List Line → PortView → ℕ
met_by past port = met past (access_at port port.place)

-- The next step of the open call, if there is one.
abbrev pub step_of_turn : PortView → List Line → Option PortStep
step_of_turn port past = if is_busy port then Some (step_of_port port (met_by past port)) else None

abbrev pub port_of_turn : PortView → List Line → PortView
port_of_turn port past = if is_busy port then port_after port port.place (met_by past port) else port

-- An event

-- Whether a peer may write a word: the word is in the peer's output section or in the common
-- section.
abbrev pub may_write : Shape → ℕ → ℕ → Bool
may_write g peer word =
    (nat_le (section_start g peer) word && nat_lt word (section_start g peer + g.out)) || (nat_le g.table word && nat_lt word (g.table + g.common))

abbrev pub poked_step : Shape → (peer word value : ℕ) → Option PortStep
poked_step g peer word value = if may_write g peer word then Some (port_step (access.Write word value) 0 None) else None

-- The step made in an event, and the peer's state after it.
abbrev pub step_in : Shape → PeerState → List Line → Event → Option PortStep
step_in g peer_state past (CallQueued peer call) = None
step_in g peer_state past (TurnTaken peer) = step_of_turn (opened peer_state).port past
step_in g peer_state past (Poked peer word value) = poked_step g peer word value

abbrev pub peer_state_in : PeerState → List Line → Event → PeerState
peer_state_in peer_state past (CallQueued peer call) = record peer_state { waiting = peer_state.waiting ++ call ∷ [] }
peer_state_in peer_state past (TurnTaken peer) = record { port = port_of_turn (opened peer_state).port past; waiting = (opened peer_state).waiting }
peer_state_in peer_state past (Poked peer word value) = peer_state

abbrev pub entry_of : Shape → HistoryState → Event → EventRecord
entry_of g so_far event = record { event = event; went = step_in g (so_far.peer_states (event_peer event)) so_far.past event }

-- The peer states with another one for `peer`.
abbrev pub peer_states_with : ℕ → PeerState → (ℕ → PeerState) → ℕ → PeerState
peer_states_with peer peer_state peer_states p = if peer == p then peer_state else peer_states p

abbrev pub after_event : Shape → HistoryState → Event → HistoryState
after_event g so_far event = record {
  past = reverse (lines_of (entry_of g so_far event)) ++ so_far.past;
  peer_states = peer_states_with (event_peer event) (peer_state_in (so_far.peer_states (event_peer event)) so_far.past event) so_far.peer_states;
}

abbrev pub run : Shape → List Event → HistoryState → HistoryState
run g [] so_far = so_far
run g (event ∷ events) so_far = run g events (after_event g so_far event)

-- The initial history state: each peer has a port without calls.
abbrev pub initial_state : World → HistoryState
initial_state world = record { past = []; peer_states = λ peer. record { port = fresh_port world.geometry peer world.most; waiting = [] } }

-- The history state after these events.
abbrev pub history_state_after : World → List Event → HistoryState
history_state_after world events = run world.geometry events (initial_state world)

-- The history of the schedule.
abbrev pub history : World → List Line
history world = reverse (history_state_after world (schedule world.acts)).past

-- A schedule has a lawful history, and this is it.
abbrev pub HistoryIsLawful : Type 0
HistoryIsLawful = (world : World) → IsWorld world → IsLawful world (history world)
