-- The schedule: each act is a list of events, and each event belongs to one peer.
use Rattle.std.specs.Prelude.{ℕ, ◌==◌, if◌then◌else◌, List, [], ◌∷◌, replicate}
use Rattle.std.specs.List.{flat_map}
use Rattle.split_ring.specs.declared.steps.Access.{Access}
use Rattle.split_ring.specs.declared.steps.Access.TheVariants as access
use Rattle.doorbell_irq.specs.Events as device
use Rattle.scenario_text.specs.declared.acts.Act.{Act}
use Rattle.scenario_text.specs.declared.acts.Act.TheVariants as act
use Rattle.call_grammar.specs.Calls.{Call, Tick, Stop, Offer, Poll}

-- A device access: a read or write of the configuration space, the register page or the MSI-X
-- region of a peer (the device's specification). Offsets and widths are in bytes.
pub data DeviceAccess : Type 0 where
  ReadsConfig : (offset width : ℕ) → DeviceAccess
  WritesConfig : (offset width value : ℕ) → DeviceAccess
  ReadsRegister : (offset : ℕ) → DeviceAccess
  WritesRegister : (offset value : ℕ) → DeviceAccess
  ReadsMsix : (offset : ℕ) → DeviceAccess
  WritesMsix : (offset value : ℕ) → DeviceAccess

-- An event. A call is queued, an automatic end or a storm starts, or a peer makes its turn. A peer
-- makes an access outside a call, a device is reset, or a peer makes a device access. The next
-- interrupt of a peer is dropped, or an interrupt with this vector is repeated at it.
pub data Event : Type 0 where
  CallQueued : (peer : ℕ) (call : Call) → Event
  AutoStarted : (peer expected : ℕ) → Event
  StormStarted : (peer seed : ℕ) → Event
  TurnTaken : (peer : ℕ) → Event
  RegionAccessed : (peer : ℕ) (a : Access) → Event
  DeviceReset : (peer : ℕ) → Event
  DeviceAccessed : (peer : ℕ) (a : DeviceAccess) → Event
  InterruptDropped : (peer : ℕ) → Event
  InterruptRepeated : (peer vector : ℕ) → Event

-- The peer of an event.
abbrev pub event_peer : Event → ℕ
event_peer (CallQueued peer call) = peer
event_peer (AutoStarted peer expected) = peer
event_peer (StormStarted peer seed) = peer
event_peer (TurnTaken peer) = peer
event_peer (RegionAccessed peer a) = peer
event_peer (DeviceReset peer) = peer
event_peer (DeviceAccessed peer a) = peer
event_peer (InterruptDropped peer) = peer
event_peer (InterruptRepeated peer vector) = peer

-- A write to the register page. A write of State or of the Doorbell is the access that writes it.
abbrev pub register_event : (peer offset value : ℕ) → Event
register_event peer offset value =
    if offset == device.state_register then RegionAccessed peer (access.State value)
    else if offset == device.doorbell_register then RegionAccessed peer (access.Ring (device.doorbell_target value) (device.doorbell_vector value))
    else DeviceAccessed peer (WritesRegister offset value)

-- The events of an act, by a scenario's table of acts. `turn P K` is K turns of P.
abbrev pub events_of : Act → List Event
events_of (act.Tick peer) = CallQueued peer Tick ∷ []
events_of (act.Offer peer frame) = CallQueued peer (Offer frame) ∷ []
events_of (act.Poll peer) = CallQueued peer Poll ∷ []
events_of (act.Stop peer) = CallQueued peer Stop ∷ []
events_of (act.Auto peer expected) = AutoStarted peer expected ∷ []
events_of (act.Storm peer seed) = StormStarted peer seed ∷ []
events_of (act.Turn peer steps) = replicate steps (TurnTaken peer)
events_of (act.Reset peer) = DeviceReset peer ∷ []
events_of (act.Poke peer word value) = RegionAccessed peer (access.Write word value) ∷ []
events_of (act.Peek peer word) = RegionAccessed peer (access.Read word) ∷ []
events_of (act.Set peer value) = RegionAccessed peer (access.State value) ∷ []
events_of (act.Ring peer target vector) = RegionAccessed peer (access.Ring target vector) ∷ []
events_of (act.CfgRead peer offset width) = DeviceAccessed peer (ReadsConfig offset width) ∷ []
events_of (act.CfgWrite peer offset width value) = DeviceAccessed peer (WritesConfig offset width value) ∷ []
events_of (act.MmioRead peer offset) = DeviceAccessed peer (ReadsRegister offset) ∷ []
events_of (act.MmioWrite peer offset value) = register_event peer offset value ∷ []
events_of (act.MsixRead peer offset) = DeviceAccessed peer (ReadsMsix offset) ∷ []
events_of (act.MsixWrite peer offset value) = DeviceAccessed peer (WritesMsix offset value) ∷ []
events_of (act.Lose peer) = InterruptDropped peer ∷ []
events_of (act.Again peer vector) = InterruptRepeated peer vector ∷ []

-- The events of a schedule.
abbrev pub schedule : List Act → List Event
schedule acts = flat_map events_of acts
