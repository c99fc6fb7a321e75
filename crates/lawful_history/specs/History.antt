-- The lawful history of a scenario, computed. It is the reference program for the relation of
-- `Lawful`.
use Rattle.std.specs.Prelude.{ℕ, ◌≡◌, ◌≤◌, if◌then◌else◌, Option, Some, None, List, [], ◌∷◌, ◌++◌, drop, length, reverse, replicate, slice_index_or, slice_set}
use Rattle.split_ring.specs.declared.steps.Access.{Access}
use Rattle.split_ring.specs.declared.steps.Access.TheVariants as access
use Rattle.section_map.specs.MayWrite.{may_write}
use Rattle.scenario_text.specs.declared.acts.Act.{Act}
use Rattle.scenario_text.specs.Scenario.{World, IsWorld}
use Rattle.call_grammar.specs.Steps.{Step, step_of}
use Rattle.call_grammar.specs.Trees.{CallTree, Ended, Does, Reads}
use Rattle.call_grammar.specs.Automatic.{Chosen, round_since}
use Rattle.lawful_history.specs.declared.line.Line.{Line}
use Rattle.lawful_history.specs.Memory.{last_write}
use Rattle.lawful_history.specs.Schedule.{Event, CallQueued, AutoStarted, StormStarted, TurnTaken, RegionAccessed, DeviceReset, event_peer, schedule}
use Rattle.lawful_history.specs.Sides.{config_of}
use Rattle.lawful_history.specs.EventRecords.{EventRecord, lines_of}
use Rattle.lawful_history.specs.Storm.{storm_step, storm_after}
use Rattle.lawful_history.specs.Peers.{Peer, Driver, Waits, Chooses, Storms, at_start, with_call, automated, stormed, was_reset, opened, stepped}
use Rattle.lawful_history.specs.Order.{Chooser, Nobody, TheRule, TheStorm, chooser, queued_since_reset, frames_left, delivered_in, Progress, EventStep, noted}
use Rattle.lawful_history.specs.Device.{device_lines, losses_with}
use Rattle.lawful_history.specs.Sessions.{recorded_in}
use Rattle.lawful_history.specs.Lawful.{IsLawful, IsLawfulIn}

-- The earlier lines, newest first. For each peer, from peer 0, the number of its interrupts that
-- are to be dropped, and its state.
pub record HistoryState : Type 0 where
  pub past : List Line
  pub losses : ℕ → ℕ
  pub peers : List Peer

-- The step of a turn without an open call, and the peer after it.
abbrev pub driven_step : World → ℕ → Driver → Option Step
driven_step world p Waits = None
driven_step world p (Chooses auto) = None
driven_step world p (Storms x) = Some (storm_step world p x)

abbrev pub driven : Peer → Driver → Peer
driven peer Waits = peer
driven peer (Chooses auto) = peer
driven peer (Storms x) = record peer { driver = Storms (storm_after x) }

-- The step of a turn, in which a read meets the last value written.
abbrev pub step_by : World → ℕ → Driver → CallTree → List Line → Option Step
step_by world p driver Ended past = driven_step world p driver
step_by world p driver (Does a marks rest) past = Some (step_of a 0 marks)
step_by world p driver (Reads word marks rest) past =
    let value = last_write past word in
    Some (step_of (access.Read word) value (marks value))

-- The peer after the step of a turn.
abbrev pub moved_by : Peer → CallTree → List Line → Peer
moved_by peer Ended past = driven peer peer.driver
moved_by peer (Does a marks rest) past = stepped peer (step_of a 0 marks) rest
moved_by peer (Reads word marks rest) past =
    let value = last_write past word in
    stepped peer (step_of (access.Read word) value (marks value)) (rest value)

abbrev pub moved : Peer → List Line → Peer
moved peer past = moved_by peer peer.left past

-- The step of a peer's turn, and the peer after it.
abbrev pub turn_step : World → ℕ → Peer → List Line → Option Step
turn_step world p peer past = step_by world p (opened (config_of world p) peer).driver (opened (config_of world p) peer).left past

abbrev pub turned : World → ℕ → Peer → List Line → Peer
turned world p peer past = moved (opened (config_of world p) peer) past

-- The step of an access outside a call. A write that isn't permitted is denied.
abbrev pub acted_step : World → ℕ → Access → List Line → Option Step
acted_step world p (access.Read word) past = Some (step_of (access.Read word) (last_write past word) [])
acted_step world p (access.Write word written) past = if may_write world.geometry p word then Some (step_of (access.Write word written) 0 []) else None
acted_step world p (access.State state) past = Some (step_of (access.State state) 0 [])
acted_step world p (access.Ring target vector) past = Some (step_of (access.Ring target vector) 0 [])
acted_step world p access.Nothing past = Some (step_of access.Nothing 0 [])

-- The step of an event, and its peer after it.
abbrev pub step_in : World → Peer → List Line → Event → Option Step
step_in world peer past (TurnTaken p) = turn_step world p peer past
step_in world peer past (RegionAccessed p a) = acted_step world p a past
step_in world peer past _ = None

abbrev pub peer_in : World → Peer → List Line → Event → Peer
peer_in world peer past (CallQueued p call) = with_call peer call
peer_in world peer past (AutoStarted p expected) = automated peer expected
peer_in world peer past (StormStarted p seed) = stormed peer seed
peer_in world peer past (TurnTaken p) = turned world p peer past
peer_in world peer past (DeviceReset p) = was_reset peer
peer_in world peer past _ = peer

abbrev pub peer_at : HistoryState → ℕ → Peer
peer_at so_far peer = slice_index_or so_far.peers peer at_start

-- The step of an event, its event record, and its peer after it.
abbrev pub step_of_event : World → HistoryState → Event → Option Step
step_of_event world so_far event = step_in world (peer_at so_far (event_peer event)) so_far.past event

abbrev pub entry_of : World → HistoryState → Event → EventRecord
entry_of world so_far event = record {
  event = event;
  went = step_of_event world so_far event;
  device = device_lines world so_far.past so_far.losses event (step_of_event world so_far event);
}

abbrev pub peer_after : World → HistoryState → Event → Peer
peer_after world so_far event = peer_in world (peer_at so_far (event_peer event)) so_far.past event

abbrev pub after_event : World → HistoryState → Event → HistoryState
after_event world so_far event = record {
  past = reverse (lines_of (entry_of world so_far event)) ++ so_far.past;
  losses = losses_with event so_far.losses;
  peers = slice_set so_far.peers (event_peer event) (peer_after world so_far event);
}

abbrev pub run : World → List Event → HistoryState → HistoryState
run world [] so_far = so_far
run world (event ∷ events) so_far = run world events (after_event world so_far event)

abbrev pub initial_state : World → HistoryState
initial_state world = record { past = []; losses = λ peer. 0; peers = replicate world.geometry.peers at_start }

-- The history of the scenario.
abbrev pub history : World → List Line
history world = reverse (run world (schedule world.acts) (initial_state world)).past

-- The stored state of a peer, and the order of its calls

-- The driver of a peer. An automatic one has its frames, its counts and the position in the round
-- after the call before.
abbrev pub driver_of : (frames : List (List ℕ)) → (delivered : ℕ) → (before : Option Chosen) → (generator : ℕ) → Chooser → Driver
driver_of frames delivered before generator Nobody = Waits
driver_of frames delivered before generator (TheRule expected) =
    Chooses (record { frames = frames; expected = expected; delivered = delivered; round = round_since before })
driver_of frames delivered before generator TheStorm = Storms generator

-- The stored state of a peer after its calls. The calls queued since the last reset that haven't
-- begun wait.
abbrev pub peer_of_progress : Progress → Peer
peer_of_progress peer = record {
  end = peer.end;
  left = peer.left;
  waiting = drop peer.begun (queued_since_reset peer.past);
  driver = driver_of (frames_left peer.past) (delivered_in peer.past) peer.before peer.generator (chooser peer.past);
}

-- The number of calls begun is at most the number queued.
abbrev pub IsWithin : Progress → Type 0
IsWithin peer = peer.begun ≤ length (queued_since_reset peer.past)

-- The step of an event, computed from the stored state of its peer, follows the order of calls. The
-- stored state after it is the state of the peer after the event.
abbrev pub GoesOnInOrder : World → Progress → List Line → Event → List Line → Type 0
GoesOnInOrder world peer past event device =
    (mid : Progress) × EventStep world (event_peer event) peer event (step_in world (peer_of_progress peer) past event) mid
    × (peer_in world (peer_of_progress peer) past event ≡ peer_of_progress (noted mid (record {
      event = event;
      went = step_in world (peer_of_progress peer) past event;
      device = device;
    })))
    × IsWithin (noted mid (record { event = event; went = step_in world (peer_of_progress peer) past event; device = device }))

-- The stored states of the computed history follow the order of the peers' calls at each event.
abbrev pub PeersKeepOrder : Type 0
PeersKeepOrder = (world : World) (peer : Progress) (past : List Line) (event : Event) (device : List Line) → IsWithin peer
    → GoesOnInOrder world peer past event device

-- A scenario has a lawful history, and it is this one.
abbrev pub HistoryIsLawful : Type 0
HistoryIsLawful = (world : World) → IsWorld world → IsLawful world (history world)

-- A record of each version has its lines.
abbrev pub HistoryIsLawfulIn : Type 0
HistoryIsLawfulIn = (world : World) (version : ℕ) → IsWorld world → IsLawfulIn world version (recorded_in world version (history world))

-- If one schedule continues another, its history continues the other's. So of two lawful histories
-- one begins the other if one is cut.
abbrev pub CutHistoriesBegin : Type 0
CutHistoriesBegin = (world : World) (acts : List Act) (more : List Event) (lines others : List Line) → IsWorld world → IsWorld (record world { acts = acts }) →
    schedule acts ≡ schedule world.acts ++ more → IsLawful world lines → IsLawful (record world { acts = acts }) others
    → (rest : List Line) × (others ≡ lines ++ rest)
