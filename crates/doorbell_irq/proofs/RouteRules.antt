-- A route by the rule of delivery.
use Rattle.std.proofs.Common.{◌≡◌, ℕ, ◌≤◌, List, length, Bool, true, false, Some, None, refl, sym, ◌∙◌, ap₂}
use Rattle.std.specs.Prelude.{◌&&◌, if◌then◌else◌, is_some}
use Rattle.pci_space.specs.declared.wiring.Wiring.{Wiring}
use Rattle.pci_space.specs.declared.wiring.Wiring.TheVariants.{Msix, Intx}
use Rattle.doorbell_irq.specs.Peer.{Registers}
use Rattle.doorbell_irq.specs.Events.{Devices, Event, vector_count}
use Rattle.doorbell_irq.specs.DeviceRules.{Bytes, lets_through, is_connected, bytes_after}
use Rattle.doorbell_irq.specs.Registers.{IsPeer, register_bytes}
use Rattle.doorbell_irq.specs.Routes.{would_be_delivered}
use Rattle.doorbell_irq.proofs.RegistersOfPeer.{lets_through_same}

some_if : (b : Bool) (n : ℕ) → is_some (if b then Some n else None) ≡ b
some_if true n = refl
some_if false n = refl

-- A trigger is delivered at a connected peer if its registers let the vector through.
pub comes_if : (wiring : Wiring) (connected : Bool) (byte : Bytes) (n : ℕ) → would_be_delivered wiring connected byte n ≡ (connected && lets_through wiring byte n)
comes_if (Msix vectors) connected byte n = some_if (connected && lets_through (Msix vectors) byte n) n
comes_if Intx connected byte n = some_if (connected && lets_through Intx byte n) 0

-- The registers of a peer determine what would be delivered to it.
pub comes_same : (w : Devices) (events : List Event) (peer : ℕ) (r : Registers) → IsPeer w events peer r → (wiring : Wiring) → vector_count wiring ≤ length r.entries → (n : ℕ) →
    would_be_delivered wiring r.connected (register_bytes r) n ≡ would_be_delivered wiring (is_connected events peer) (bytes_after w events peer) n
comes_same w events peer r is wiring few n =
    comes_if wiring r.connected (register_bytes r) n
    ∙ ap₂ (λ a b. a && b) is.connected (lets_through_same w events peer r is wiring few n)
    ∙ sym (comes_if wiring (is_connected events peer) (bytes_after w events peer) n)
