-- The devices of a world as the code has them.
use Rattle.std.specs.Prelude.{ℕ, ◌≤◌, List}
use Rattle.pci_space.specs.declared.sizes.TheConstants.{MOST_VECTORS}
use Rattle.pci_space.specs.declared.wiring.Wiring.{Wiring}
use Rattle.doorbell_irq.specs.Peer.{Registers}
use Rattle.doorbell_irq.specs.Events.{vector_count}

-- The number of peers, how interrupts are raised, and each peer's registers.
pub record DeviceView : Type 0 where
  pub peers : ℕ
  pub wiring : Wiring
  pub registers : List Registers

-- There are at most 8 peers, and no more vectors than a wiring has (profile).
pub record IsDeviceView (d : DeviceView) : Type 0 where
  pub few : d.peers ≤ 8
  pub entries : vector_count d.wiring ≤ MOST_VECTORS
