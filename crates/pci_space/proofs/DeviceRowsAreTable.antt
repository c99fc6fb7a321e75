-- The rows of a device are a table, wherever its region is.
use Rattle.std.proofs.Common.{rules, arith, refl, ◌≡◌, ℕ, ◌<◌, ◌≤◌, ◌*◌, ◌+◌, ◌-◌, ◌/◌, ◌%◌, ◌^◌, None, true, nat_lt}
use Rattle.std.proofs.Math.Nat.{mul-le-mul_right}
use Rattle.std.specs.Cmp.Rules.{comparing}
use Rattle.section_map.specs.Geometry.{Shape, IsShape}
use Rattle.pci_space.specs.declared.wiring.Wiring.{Wiring}
use Rattle.pci_space.specs.declared.wiring.Wiring.TheVariants.{Msix, Intx}
use Rattle.pci_space.specs.declared.place.RegionPlace.{RegionPlace}
use Rattle.pci_space.specs.declared.place.RegionPlace.TheVariants.{Address, Bar2}
use Rattle.pci_space.specs.Fields.{table_fault}
use Rattle.pci_space.specs.Wiring.{IsWiring}
use Rattle.pci_space.specs.Place.{IsRegionPlace}
use Rattle.pci_space.specs.Device.{placed_rows}

less : (a b : ℕ) → a < b → nat_lt a b ≡ true
less a b below = search (comparing, rules)

-- The numbers of a shape fit their fields.
table_fits : (shape : Shape) → IsShape shape → nat_lt (4 * shape.table) (256 ^ 4) ≡ true
table_fits shape shaped = less (4 * shape.table) (256 ^ 4) (omega (arith, shaped.room))

common_fits : (shape : Shape) → IsShape shape → nat_lt (4 * shape.common) (256 ^ 8) ≡ true
common_fits shape shaped = less (4 * shape.common) (256 ^ 8) (omega (arith, shaped.room))

out_fits : (shape : Shape) → IsShape shape → nat_lt (4 * shape.out) (256 ^ 8) ≡ true
out_fits shape shaped =
    let one : 1 * shape.out ≤ shape.peers * shape.out = mul-le-mul_right shape.out (omega (arith, shaped.two_peers)) in
    less (4 * shape.out) (256 ^ 8) (omega (arith, shaped.room))

-- The mask of a window fits its register.
mask_fits : (bits : ℕ) → nat_lt (2 ^ 64 - 2 ^ bits) (256 ^ 8) ≡ true
mask_fits bits =
    let some : 0 < 2 ^ bits = search (rules, arith) in
    less (2 ^ 64 - 2 ^ bits) (256 ^ 8) (omega (arith, some))

pub sound_rows : (shape : Shape) (protocol : ℕ) (wiring : Wiring) (region : RegionPlace) → IsShape shape → protocol < 65536 → IsWiring wiring →
    IsRegionPlace region → table_fault (placed_rows shape protocol wiring region) 256 ≡ None
sound_rows shape protocol (Msix vectors) (Address base) shaped small wired placed =
    let low = less (protocol % 256) 256 (omega arith) in
    let high = less (protocol / 256) 256 (omega arith) in
    let last = less (vectors - 1) (256 ^ 2) (omega (arith, wired)) in
    let at = less base (256 ^ 8) placed in
    rw (low, high, (table_fits shape shaped), (common_fits shape shaped), (out_fits shape shaped), last, at) refl
sound_rows shape protocol (Msix vectors) (Bar2 bits) shaped small wired placed =
    let low = less (protocol % 256) 256 (omega arith) in
    let high = less (protocol / 256) 256 (omega arith) in
    let last = less (vectors - 1) (256 ^ 2) (omega (arith, wired)) in
    rw (low, high, (table_fits shape shaped), (common_fits shape shaped), (out_fits shape shaped), last, (mask_fits bits)) refl
sound_rows shape protocol Intx (Address base) shaped small wired placed =
    let low = less (protocol % 256) 256 (omega arith) in
    let high = less (protocol / 256) 256 (omega arith) in
    let at = less base (256 ^ 8) placed in
    rw (low, high, (table_fits shape shaped), (common_fits shape shaped), (out_fits shape shaped), at) refl
sound_rows shape protocol Intx (Bar2 bits) shaped small wired placed =
    let low = less (protocol % 256) 256 (omega arith) in
    let high = less (protocol / 256) 256 (omega arith) in
    rw (low, high, (table_fits shape shaped), (common_fits shape shaped), (out_fits shape shaped), (mask_fits bits)) refl
