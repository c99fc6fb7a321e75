-- The values that cross to a program in C.
use Rattle.std.specs.Prelude.{ℕ, ◌≡◌, ◌*◌, ◌+◌, length, take, is_some, unwrap_or}
use Rattle.core.specs.Int.{from_bool}
use Rattle.pci_space.specs.declared.wiring.Wiring.{Wiring}
use Rattle.doorbell_irq.specs.DeviceRules.{Bytes, msix_at}
use Rattle.doorbell_irq.specs.declared.route.Route as device_route
use Rattle.doorbell_irq.specs.declared.effect.Effect as device_effect
use Rattle.ivshm_device.specs.declared.crossing.Effect.{Effect}
use Rattle.ivshm_device.specs.declared.crossing.Message.{Message}
use Rattle.ivshm_device.specs.declared.crossing.Route.{Route}

-- The struct has the effect: the State word, if one is written, and the deliveries.
pub record CrossesEffect (effect : device_effect.Effect) (crossed : Effect) : Type 0 where
  pub writes : crossed.writes_state ≡ from_bool (is_some effect.state)
  pub state : crossed.state ≡ unwrap_or effect.state 0
  pub count : crossed.count ≡ length effect.deliveries.items
  pub deliveries : take (length effect.deliveries.items) crossed.deliveries ≡ effect.deliveries.items

-- The struct of a route.
abbrev pub route_crossed : device_route.Route → Route
route_crossed route = record { vectors = route.vectors; intx = from_bool route.intx; one_shot = from_bool route.one_shot; enabled = from_bool route.enabled }

-- The message of an MSI-X entry with these words: Message Address, Message Upper Address, Message
-- Data.
abbrev pub message_of : (low high word : ℕ) → Message
message_of low high word = record { address = low + 0x1_0000_0000 * high; data_word = word }

-- The message of a vector, by the bytes of its peer: the first three words of its MSI-X entry (PCI
-- 3.0, 6.8.2).
abbrev pub message_at : Wiring → Bytes → (vector : ℕ) → Message
message_at wiring byte vector = message_of (msix_at wiring byte (16 * vector)) (msix_at wiring byte (16 * vector + 4)) (msix_at wiring byte (16 * vector + 8))
