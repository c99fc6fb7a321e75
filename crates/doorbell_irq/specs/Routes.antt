-- The doorbells that a peer's registers let through, by the rule of delivery.
use Rattle.std.specs.Prelude.{ℕ, ◌≡◌, ◌<◌, ◌==◌, ◌&&◌, nat_lt, if◌then◌else◌, Bool, true, false, Option, Some, None, is_some, List}
use Rattle.pci_space.specs.declared.wiring.Wiring.{Wiring}
use Rattle.pci_space.specs.declared.wiring.Wiring.TheVariants.{Msix, Intx}
use Rattle.doorbell_irq.specs.declared.route.Route.{Route}
use Rattle.doorbell_irq.specs.Events.{Devices, Event, Page, interrupt_control_register}
use Rattle.doorbell_irq.specs.DeviceRules.{Bytes, bit, is_enabled, is_one_shot, delivery_by, is_connected, bytes_after}

-- The bytes of a peer with Interrupt Control bit 0 set.
abbrev pub with_interrupts_on : Bytes → Bytes
with_interrupts_on byte Page k = if k == interrupt_control_register then 1 else byte Page k
with_interrupts_on byte part k = byte part k

-- A trigger with vector n would be delivered to the peer if its Interrupt Control bit 0 were set.
abbrev pub would_be_delivered : Wiring → Bool → Bytes → ℕ → Bool
would_be_delivered wiring connected byte n = is_some (delivery_by wiring connected (with_interrupts_on byte) (Some n))

-- Interrupts are raised by INTx.
abbrev pub is_intx : Wiring → Bool
is_intx (Msix vectors) = false
is_intx Intx = true

-- The route is that of the peer after these events.
pub record IsRoute (w : Devices) (events : List Event) (peer : ℕ) (route : Route) : Type 0 where
  pub vectors : (n : ℕ) → n < 64 → bit route.vectors n ≡ would_be_delivered w.wiring (is_connected events peer) (bytes_after w events peer) n
  pub intx : route.intx ≡ is_intx w.wiring
  pub one_shot : route.one_shot ≡ is_one_shot (bytes_after w events peer)
  pub enabled : route.enabled ≡ is_enabled (bytes_after w events peer)

-- The bit of a route for a vector: bit 0 for all vectors with INTx.
abbrev pub bit_for : Route → ℕ → ℕ
bit_for route vector = if route.intx then 0 else vector

-- The bit that a doorbell with this vector sets at the end of a route, if it is delivered: the
-- reported vector.
abbrev pub bit_rung : Route → ℕ → Option ℕ
bit_rung route vector =
    if route.enabled && (nat_lt (bit_for route vector) 64 && bit route.vectors (bit_for route vector)) then Some (bit_for route vector) else None
