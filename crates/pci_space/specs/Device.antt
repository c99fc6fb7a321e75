-- The configuration space of the device (the device's specification; PCI 3.0 for the header and
-- MSI-X).
use Rattle.std.specs.Prelude.{ℕ, ◌*◌, ◌/◌, ◌%◌, List, [], ◌∷◌, Option, Some, None, false}
use Rattle.section_map.specs.Geometry.{Shape}
use Rattle.pci_space.specs.declared.field.Field.{Field}
use Rattle.pci_space.specs.declared.found.Found.{Found}
use Rattle.pci_space.specs.declared.found.MsixFound.{MsixFound}
use Rattle.pci_space.specs.declared.wiring.Wiring.{Wiring}
use Rattle.pci_space.specs.declared.wiring.Wiring.TheVariants.{Msix, Intx}
use Rattle.pci_space.specs.declared.place.RegionPlace.{RegionPlace}
use Rattle.pci_space.specs.Wiring.{if_msix, last_vector}
use Rattle.pci_space.specs.Place.{usual_place, capability_length, place_row, base_of}

-- A row: place, width, reset value, mask.
abbrev pub row : ℕ → ℕ → ℕ → ℕ → Field
row place width reset mask = record { place = place; width = width; reset = reset; mask = mask }

-- The rows of a device whose region is at this place. Sizes are in bytes. Profile: the places of
-- the two capabilities, the sizes of the windows of BAR 0 and 1, and Command bits 2 and 3.
abbrev pub placed_rows : Shape → ℕ → Wiring → RegionPlace → List Field
placed_rows shape protocol wiring region =
    row 0x00 2 0x110A 0  -- Vendor ID
    ∷ row 0x02 2 0x4106 0  -- Device ID
    ∷ row 0x04 2 0 0x040E  -- Command: bits 1, 2, 3 and 10
    ∷ row 0x06 2 0x0010 0  -- Status: there is a list of capabilities
    ∷ row 0x08 1 0 0  -- Revision
    ∷ row 0x09 1 (protocol % 256) 0  -- Interface
    ∷ row 0x0A 1 (protocol / 256) 0  -- Sub-Class
    ∷ row 0x0B 1 0xFF 0  -- Base Class
    ∷ row 0x10 4 0 0xFFFF_F000  -- BAR 0: the register page, 4,096 bytes
    ∷ row 0x14 4 0 (if_msix wiring 0xFFFF_F000 0)  -- BAR 1: the MSI-X region, 4,096 bytes
    ∷ row 0x34 1 0x40 0  -- Capability Pointer
    ∷ row 0x3D 1 (if_msix wiring 0 1) 0  -- Interrupt Pin
    ∷ row 0x40 1 0x09 0  -- the vendor capability
    ∷ row 0x41 1 (if_msix wiring 0x60 0) 0  -- the next capability
    ∷ row 0x42 1 (capability_length region) 0  -- its length
    ∷ row 0x43 1 0 1  -- Privileged Control: bit 0 is one-shot mode
    ∷ row 0x44 4 (4 * shape.table) 0  -- the size of the State Table
    ∷ row 0x48 8 (4 * shape.common) 0  -- the size of the Read/Write section
    ∷ row 0x50 8 (4 * shape.out) 0  -- the size of an output section
    ∷ place_row region  -- Base Address, or BAR 2
    ∷ row 0x60 1 (if_msix wiring 0x11 0) 0  -- the MSI-X capability
    ∷ row 0x61 1 0 0  -- the next capability: none
    ∷ row 0x62 2 (last_vector wiring) (if_msix wiring 0xC000 0)  -- control: mask, enable
    ∷ row 0x64 4 (if_msix wiring 0x0000_0001 0) 0  -- the table of vectors, at offset 0 of BAR 1
    ∷ row 0x68 4 (if_msix wiring 0x0000_0801 0) 0  -- the pending bits, at offset 800h of BAR 1
    ∷ []

-- The rows of a device with the region at the usual base address.
abbrev pub device_rows : Shape → ℕ → Wiring → List Field
device_rows shape protocol wiring = placed_rows shape protocol wiring usual_place

-- The MSI-X capability that a walk finds in a device.
abbrev pub msix_of : Wiring → Option MsixFound
msix_of (Msix vectors) = Some (record { vectors = vectors; table = 0x0000_0001; pending = 0x0000_0801 })
msix_of Intx = None

-- The device that a walk finds in a configuration space at reset.
abbrev pub found_of : Shape → ℕ → Wiring → RegionPlace → Found
found_of shape protocol wiring region = record {
  protocol = protocol;
  one_shot = false;
  table = 4 * shape.table;
  common = 4 * shape.common;
  out = 4 * shape.out;
  base = base_of region;
  msix = msix_of wiring;
}
