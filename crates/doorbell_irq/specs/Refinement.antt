-- A device and the lists of events that it refines.
use Rattle.std.specs.Prelude.{ℕ, ◌≡◌, ◌<◌, ◌≤◌, List, ◌∷◌, Some, length, slice_get}
use Rattle.pci_space.specs.declared.wiring.Wiring.{Wiring}
use Rattle.doorbell_irq.specs.DeviceView.{DeviceView}
use Rattle.doorbell_irq.specs.Peer.{Registers}
use Rattle.doorbell_irq.specs.Events.{Devices, Event}
use Rattle.doorbell_irq.specs.declared.effect.Effect.{Effect}
use Rattle.doorbell_irq.specs.DeviceRules.{effect_of}
use Rattle.doorbell_irq.specs.Registers.{IsPeer}

-- A device refines a list of events of a world, the newest first, if its registers are those after
-- the events.
pub record Refines (w : Devices) (events : List Event) (device : DeviceView) : Type 0 where
  pub peers : device.peers ≡ w.shape.peers
  pub wiring : device.wiring ≡ w.wiring
  pub count : w.shape.peers ≤ length device.registers
  pub registers : (peer : ℕ) (r : Registers) → peer < w.shape.peers → slice_get device.registers peer ≡ Some r → IsPeer w events peer r

-- The number of peers of a device.
abbrev pub peer_count : DeviceView → ℕ
peer_count device = device.peers

-- The device of the first `peers` of these registers.
abbrev pub among : (peers : ℕ) → Wiring → List Registers → DeviceView
among peers wiring registers = record { peers = peers; wiring = wiring; registers = registers }

-- The new device refines each list of events that the old one refines, with one more event.
abbrev pub Adds : Event → (old new : DeviceView) → Type 0
Adds event old new = (w : Devices) (events : List Event) → Refines w events old → Refines w (event ∷ events) new

-- The effect is that of the rules for an event at this device, after each list of events that the
-- device refines.
abbrev pub HasEffect : DeviceView → Event → Effect → Type 0
HasEffect device event effect = (w : Devices) (events : List Event) → Refines w events device → effect ≡ effect_of w events event
