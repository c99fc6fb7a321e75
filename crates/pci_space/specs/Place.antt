-- The place of a world's region, and the fields that depend on it (the device's specification; PCI
-- 3.0, 6.2.5.1 for the register).
use Rattle.std.specs.Prelude.{ℕ, ◌-◌, ◌^◌, ◌<◌, ◌≤◌, Option, Some, None}
use Rattle.pci_space.specs.declared.field.Field.{Field}
use Rattle.pci_space.specs.declared.place.TheConstants.{USUAL_BASE}
use Rattle.pci_space.specs.declared.place.RegionPlace.{RegionPlace}
use Rattle.pci_space.specs.declared.place.RegionPlace.TheVariants.{Address, Bar2}

-- A base address has 64 bits. A window has 12 to 63: a page at least.
abbrev pub IsRegionPlace : RegionPlace → Type 0
IsRegionPlace (Address base) = base < 2 ^ 64
IsRegionPlace (Bar2 bits) = (12 ≤ bits) × (bits ≤ 63)

-- The place of the program's devices (profile).
abbrev pub usual_place : RegionPlace
usual_place = Address USUAL_BASE

-- The length of the vendor capability: only the longer one has a Base Address.
abbrev pub capability_length : RegionPlace → ℕ
capability_length (Address base) = 0x20
capability_length (Bar2 bits) = 0x18

-- The row of the place: the Base Address, or BAR 2, a prefetchable 64-bit register whose
-- low bits are the offset in its window.
abbrev pub place_row : RegionPlace → Field
place_row (Address base) = record { place = 0x58; width = 8; reset = base; mask = 0 }
place_row (Bar2 bits) = record { place = 0x18; width = 8; reset = 0xC; mask = 2 ^ 64 - 2 ^ bits }

-- The Base Address that a walk finds, if there is one.
abbrev pub base_of : RegionPlace → Option ℕ
base_of (Address base) = Some base
base_of (Bar2 bits) = None
