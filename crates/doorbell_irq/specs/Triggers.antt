-- The peers that a call triggers, and the deliveries that follow.
use Rattle.std.specs.Prelude.{ℕ, ◌≡◌, ◌<◌, ◌≤◌, ◌==◌, if◌then◌else◌, List, [], ◌∷◌, Option, Some, None, slice_get}
use Rattle.pci_space.specs.declared.wiring.Wiring.{Wiring}
use Rattle.doorbell_irq.specs.Peer.{Registers}
use Rattle.doorbell_irq.specs.declared.trigger.Trigger.{Trigger}
use Rattle.doorbell_irq.specs.declared.trigger.Trigger.TheVariants.{Nobody, At, Others}
use Rattle.doorbell_irq.specs.declared.effect.Delivery.{Delivery}
use Rattle.doorbell_irq.specs.declared.effect.Effect.{Effect}
use Rattle.doorbell_irq.specs.Registers.{Takes, delivery_at}

-- The vector with which a peer is triggered.
abbrev pub vector_at : Trigger → ℕ → Option ℕ
vector_at Nobody peer = None
vector_at (At target vector) peer = if target == peer then Some vector else None
vector_at (Others source) peer = if source == peer then None else Some 0

-- The delivery to a peer with these registers, if there are any.
abbrev pub delivery_if : Wiring → Option ℕ → Option Registers → Option ℕ
delivery_if wiring vector None = None
delivery_if wiring vector (Some r) = delivery_at wiring r vector

-- The delivery to a peer among these.
abbrev pub delivery_among : Wiring → Trigger → List Registers → ℕ → Option ℕ
delivery_among wiring trigger registers peer = delivery_if wiring (vector_at trigger peer) (slice_get registers peer)

-- Each of the first `peers` peers takes its vector of a trigger, or none.
abbrev pub TakesBelow : (peers : ℕ) → Wiring → Trigger → (old new : List Registers) → Type 0
TakesBelow peers wiring trigger old new =
    (peer : ℕ) (before after : Registers) → peer < peers → slice_get old peer ≡ Some before → slice_get new peer ≡ Some after →
    Takes wiring (vector_at trigger peer) before after

-- The registers past those of the first `peers` peers stay.
abbrev pub KeepsPast : (peers : ℕ) → (old new : List Registers) → Type 0
KeepsPast peers old new = (place : ℕ) → peers ≤ place → slice_get new place ≡ slice_get old place

-- A delivery, if there is one, as a list.
abbrev pub delivered : Option Delivery → List Delivery
delivered None = []
delivered (Some delivery) = delivery ∷ []

-- The effect of a doorbell with this delivery, if there is one.
abbrev pub doorbell_effect : Option Delivery → Effect
doorbell_effect delivery = record { state = None; deliveries = record { items = delivered delivery } }
