-- The state of a world: its region, its devices and its lines, after the lines so far.
use Rattle.std.specs.Prelude.{ℕ, ◌≡◌, ◌+◌, ◌<◌, ◌^◌, true, Option, Some, None, List, [], ◌∷◌, ◌++◌, length, slice_index, slice_index_or, slice_set, Result, OnOk}
use Rattle.ivs_base.specs.declared.NoMemory.{NoMemory}
use Rattle.section_map.specs.Geometry.{Words, word_count}
use Rattle.section_map.specs.MayWrite.{MayWrite}
use Rattle.split_ring.specs.declared.steps.Access.{Access}
use Rattle.split_ring.specs.declared.steps.Access.TheVariants as access
use Rattle.doorbell_irq.specs.declared.effect.Delivery.{Delivery}
use Rattle.doorbell_irq.specs.Events as device
use Rattle.doorbell_irq.specs.DeviceRules.{effect_of}
use Rattle.doorbell_irq.specs.Refinement.{Refines, peer_count}
use Rattle.scenario_text.specs.Scenario.{World, IsWorld}
use Rattle.lawful_history.specs.declared.line.Line.{Line}
use Rattle.lawful_history.specs.Memory.{Apart, memory_effect_of, last_write}
use Rattle.lawful_history.specs.Schedule.{DeviceAccess}
use Rattle.lawful_history.specs.EventRecords.{access_lines}
use Rattle.lawful_history.specs.Device.{devices_of, device_event_of, device_events, lost_by, lost_count, device_access_line, interrupts_of_line, interrupts_of_access}
use Rattle.lawful_history.specs.Frames.{has_frame}
use Rattle.simulator.specs.Log.{Output, IsLogOf}
use Rattle.simulator.specs.declared.world_state.WorldState.{WorldState}

-- Each word has the value written last; the lines are listed newest first.
abbrev pub WordsAre : List ℕ → List Line → Type 0
WordsAre words past = (word : ℕ) → word < length words → slice_index words word ≡ last_write past word

-- The world state after the lines `past`, newest first, of which the oldest were drained into
-- `output`. The log records them. The region has the words written last. The devices are in the
-- state after these lines. The schedule loses `losses p` interrupts of peer p, and `unspent` has
-- the rest of them.
pub record WorldStateAfter (world : World) (output : Output) (past : List Line) (losses : ℕ → ℕ) (world_state : WorldState) : Type 0 where
  pub is_world : IsWorld world
  pub shape : world_state.region.shape ≡ world.geometry
  pub log : IsLogOf world output past world_state.log
  pub words : WordsAre world_state.region.words past
  pub devices : Refines (devices_of world) (device_events past) world_state.device.value
  pub unspent : (p : ℕ) → slice_index_or world_state.unspent p 0 + lost_count past p ≡ losses p
  pub peer_states : length world_state.unspent ≡ 8

-- `Holds` holds of each world, each output and all older lines whose state this is.
abbrev pub InEachWorld : WorldState → (World → Output → List Line → (ℕ → ℕ) → Type 0) → Type 0
InEachWorld world_state Holds = (world : World) (output : Output) (past : List Line) (losses : ℕ → ℕ) →
    WorldStateAfter world output past losses world_state → Holds world output past losses

-- The line of the peer's access to its device is added.
abbrev pub AddsAccess : {A : Type 0} → WorldState → WorldState → ℕ → DeviceAccess → Result A NoMemory → Type 0
AddsAccess old new me by result =
    InEachWorld old (λ world output past losses. OnOk result (WorldStateAfter world output (device_access_line world past me by ∷ past) losses new))

-- The region and the devices have the peer.
pub record HasPeer (world_state : WorldState) (me : ℕ) : Type 0 where
  pub in_region : me < world_state.region.shape.peers
  pub in_devices : me < peer_count world_state.device.value
  pub few : me < length world_state.unspent

-- A line that changes no word and is no event of the devices. If it has a frame, the frame has a
-- byte.
pub record IsMark (line : Line) : Type 0 where
  pub touch : memory_effect_of line ≡ Apart
  pub recorded : device_event_of line ≡ None
  pub lost : (p : ℕ) → lost_by line p ≡ 0
  pub frame : has_frame line ≡ true

-- A read's word is in the region, the peer may write a write's word, and a doorbell's target and
-- vector have 16 bits each.
abbrev pub CanPerform : WorldState → ℕ → Access → Type 0
CanPerform world_state me (access.Read word) = word < word_count world_state.region.shape
CanPerform world_state me (access.Write word value) = MayWrite world_state.region.shape me word
CanPerform world_state me (access.State state) = Unit {0}
CanPerform world_state me (access.Ring target vector) = (target < 2 ^ 16) × (vector < 2 ^ 16)
CanPerform world_state me access.Nothing = Unit {0}

-- A read returned the value written last.
abbrev pub GaveLast : List Line → Access → ℕ → Type 0
GaveLast past (access.Read word) value = value ≡ last_write past word
GaveLast past _ value = Unit {0}

-- The lines after an access of a peer: its line, and the interrupts that it causes.
abbrev pub accessed : World → List Line → (ℕ → ℕ) → ℕ → Access → ℕ → List Line
accessed world past losses me a value = access_lines me a value ++ interrupts_of_access world past losses (access_lines me a value)

-- The line causes these interrupts, after these older lines.
abbrev pub BringsBy : World → List Line → Option device.Event → List Delivery → Type 0
BringsBy world past None deliveries = deliveries ≡ []
BringsBy world past (Some event) deliveries = deliveries ≡ (effect_of (devices_of world) (device_events past) event).deliveries.items

-- The region after a call of the devices: if they wrote a State, it is the peer's word.
abbrev pub with_state : Words → ℕ → Option ℕ → Words
with_state region me None = region
with_state region me (Some value) = record region { words = slice_set region.words me value }

-- A line with the interrupts that it causes.
abbrev pub line_with_interrupts : World → List Line → (ℕ → ℕ) → Line → List Line
line_with_interrupts world past losses line = line ∷ interrupts_of_line world past losses line
