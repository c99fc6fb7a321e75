-- The events of the devices of a world, and the fields of the devices.
use Rattle.std.specs.Prelude.{ℕ, ◌+◌, ◌*◌, ◌/◌, ◌%◌, List, [], ◌∷◌}
use Rattle.section_map.specs.Geometry.{Shape}
use Rattle.pci_space.specs.declared.field.Field.{Field}
use Rattle.pci_space.specs.declared.wiring.Wiring.{Wiring}
use Rattle.pci_space.specs.declared.wiring.Wiring.TheVariants.{Msix, Intx}
use Rattle.pci_space.specs.declared.place.RegionPlace.{RegionPlace}
use Rattle.pci_space.specs.Device.{row, placed_rows}

-- The devices of a world: the geometry of its region, with the number of peers, the wiring of
-- interrupts, and the region's place.
pub record Devices : Type 0 where
  pub shape : Shape
  pub wiring : Wiring
  pub region : RegionPlace

-- An event: a guest writes its configuration space, its register page or its MSI-X region, or a
-- peer is reset, disconnected or connected. Offsets and widths are in bytes.
pub data Event : Type 0 where
  ConfigWritten : (peer offset width value : ℕ) → Event
  RegisterWritten : (peer offset value : ℕ) → Event
  MsixWritten : (peer offset value : ℕ) → Event
  WasReset : (peer : ℕ) → Event
  WasDisconnected : (peer : ℕ) → Event
  WasConnected : (peer : ℕ) → Event

-- The spaces of one peer: its configuration space, its register page, and each entry of its MSI-X
-- table.
pub data Part : Type 0 where
  Config : Part
  Page : Part
  Entry : (n : ℕ) → Part

-- Offsets in the register page (the device's specification).
abbrev pub interrupt_control_register : ℕ
interrupt_control_register = 0x08

abbrev pub doorbell_register : ℕ
doorbell_register = 0x0C

abbrev pub state_register : ℕ
state_register = 0x10

-- A doorbell word: the vector in its low 16 bits, the target in its high 16 bits (the device's
-- specification).
abbrev pub doorbell_word : (target vector : ℕ) → ℕ
doorbell_word target vector = 65536 * target + vector

abbrev pub doorbell_target : ℕ → ℕ
doorbell_target word = word / 65536

abbrev pub doorbell_vector : ℕ → ℕ
doorbell_vector word = word % 65536

-- The register page of a peer among `peers` (the device's specification; that the Doorbell reads 0
-- is profile).
abbrev pub page_rows : ℕ → ℕ → List Field
page_rows peers peer =
    row 0x00 4 peer 0  -- ID
    ∷ row 0x04 4 peers 0  -- Maximum Peers
    ∷ row interrupt_control_register 4 0 0x0000_0001  -- bit 0
    ∷ row doorbell_register 4 0 0
    ∷ row state_register 4 0 0xFFFF_FFFF
    ∷ []

-- An entry of the MSI-X table (PCI 3.0, 6.8.2). At reset it is masked.
abbrev pub entry_rows : List Field
entry_rows =
    row 0x00 4 0 0xFFFF_FFFF  -- Message Address
    ∷ row 0x04 4 0 0xFFFF_FFFF  -- Message Upper Address
    ∷ row 0x08 4 0 0xFFFF_FFFF  -- Message Data
    ∷ row 0x0C 4 1 0x0000_0001  -- Vector Control: bit 0 masks the vector
    ∷ []

-- The rows of a peer's space. The program's protocol is 0001h.
abbrev pub rows_of : Devices → ℕ → Part → List Field
rows_of w peer Config = placed_rows w.shape 0x0001 w.wiring w.region
rows_of w peer Page = page_rows w.shape.peers peer
rows_of w peer (Entry n) = entry_rows

-- The number of MSI-X entries: none with INTx.
abbrev pub vector_count : Wiring → ℕ
vector_count (Msix vectors) = vectors
vector_count Intx = 0
