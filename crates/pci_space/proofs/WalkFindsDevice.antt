-- A walk over the bytes of a device's space.
use Rattle.std.proofs.Common.{◌≡◌, ℕ, ◌+◌, ◌-◌, ◌*◌, ◌/◌, ◌%◌, ◌^◌, ◌<◌, ◌≤◌, List, [], ◌∷◌, refl, sym, ◌∙◌, ap, ap₂, subst, arith, lit<, lit≤}
use Rattle.std.specs.Prelude.{false, ◌&&◌, not, ◌==◌, if◌then◌else◌, slice_index, Option, Some, None, MatchOption, Result, Ok, Err}
use Rattle.pci_space.specs.declared.found.Found.{Found}
use Rattle.std.proofs.Math.Nat.{mul-le-mul_right}
use Rattle.section_map.specs.Geometry.{Shape, IsShape}
use Rattle.pci_space.specs.declared.found.CapabilityFault.{CapabilityFault}
use Rattle.pci_space.specs.declared.found.CapabilityFault.TheVariants.{NotThisDevice, BadClass, NoVendor}
use Rattle.pci_space.specs.declared.found.Listed.{Listed}
use Rattle.pci_space.specs.declared.found.Vendor.{Vendor}
use Rattle.pci_space.specs.declared.wiring.Wiring.{Wiring}
use Rattle.pci_space.specs.declared.wiring.Wiring.TheVariants.{Msix, Intx}
use Rattle.pci_space.specs.Numbers.{number_byte, number_from}
use Rattle.pci_space.specs.Fields.{reset_byte}
use Rattle.pci_space.specs.Wiring.{IsWiring}
use Rattle.pci_space.specs.declared.place.RegionPlace.{RegionPlace}
use Rattle.pci_space.specs.declared.place.RegionPlace.TheVariants.{Address, Bar2}
use Rattle.pci_space.specs.Place.{IsRegionPlace, base_of, capability_length}
use Rattle.pci_space.specs.Device.{placed_rows, found_of, msix_of}
use Rattle.pci_space.specs.Walk.{number_at, pointer_at, nothing_listed, listed_with, head_fault, found_in, FollowsList, IsWalk}
use Rattle.pci_space.specs.Walk.FollowsList.{ends, continues}
use Rattle.pci_space.proofs.NumberBytes.{number_from-within, number_from-bytes}

-- The vendor capability of a device.
abbrev vendor_of : Shape → RegionPlace → Vendor
vendor_of shape region = record { one_shot = false; table = 4 * shape.table; common = 4 * shape.common; out = 4 * shape.out; base = base_of region }

module _ (shape : Shape) (protocol : ℕ) (wiring : Wiring) (region : RegionPlace) (bytes : List ℕ)
    (same : (k : ℕ) → k < 256 → slice_index bytes k ≡ reset_byte (placed_rows shape protocol wiring region) k) where
  -- The number of a field, by the bytes at reset.
  number : (at count : ℕ) → at + count ≤ 256 → number_at bytes at count ≡ number_from (reset_byte (placed_rows shape protocol wiring region)) at count
  number at count inside = number_from-within (slice_index bytes) (reset_byte (placed_rows shape protocol wiring region)) 256 at count inside same

  -- The number of a field with this reset value.
  field : (n at count : ℕ) → at + count ≤ 256 → n < 256 ^ count →
      number_from (reset_byte (placed_rows shape protocol wiring region)) at count ≡ number_from (λ k. number_byte n (k - at)) at count → number_at bytes at count ≡ n
  field n at count inside small is = number at count inside ∙ is ∙ number_from-bytes n at count small

  head : head_fault bytes ≡ None
  head = ap₂ (λ (a b : ℕ). test a b (slice_index bytes 0x0B) (slice_index bytes 0x06)) (number 0 2 (lit≤ tt)) (number 2 2 (lit≤ tt))
      ∙ ap₂ (λ (a b : ℕ). test 0x110A 0x4106 a b) (same 0x0B (lit< tt)) (same 0x06 (lit< tt)) where
        test : ℕ → ℕ → ℕ → ℕ → Option CapabilityFault
        test a b c s =
            if not (a == 0x110A && b == 0x4106) then Some (NotThisDevice a b)
            else if not (c == 0xFF) then Some (BadClass c)
            else if s / 16 % 2 == 0 then Some NoVendor
            else None

  pointer : (at : ℕ) → at < 256 → pointer_at bytes at ≡ reset_byte (placed_rows shape protocol wiring region) at - reset_byte (placed_rows shape protocol wiring region) at % 4
  pointer at inside = ap (λ (b : ℕ). b - b % 4) (same at inside)

  table : IsShape shape → number_at bytes 0x44 4 ≡ 4 * shape.table
  table shaped = field (4 * shape.table) 0x44 4 (lit≤ tt) (omega (arith, shaped.room)) refl

  common : IsShape shape → number_at bytes 0x48 8 ≡ 4 * shape.common
  common shaped = field (4 * shape.common) 0x48 8 (lit≤ tt) (omega (arith, shaped.room)) refl

  out : IsShape shape → number_at bytes 0x50 8 ≡ 4 * shape.out
  out shaped =
      let one : 1 * shape.out ≤ shape.peers * shape.out = mul-le-mul_right shape.out (omega (arith, shaped.two_peers)) in
      field (4 * shape.out) 0x50 8 (lit≤ tt) (omega (arith, shaped.room)) refl

  named : protocol < 65536 → number_at bytes 0x09 2 ≡ protocol
  named small = number 0x09 2 (lit≤ tt) ∙ omega arith

-- The first capability is the vendor's.
vendor : (shape : Shape) (protocol : ℕ) (wiring : Wiring) (region : RegionPlace) (bytes : List ℕ) → IsShape shape → IsRegionPlace region →
    ((k : ℕ) → k < 256 → slice_index bytes k ≡ reset_byte (placed_rows shape protocol wiring region) k) →
    listed_with bytes 0x40 nothing_listed ≡ Ok (record { vendor = Some (vendor_of shape region); msix = None })
vendor shape protocol wiring (Address base) bytes shaped placed same =
    let id : slice_index bytes 0x40 ≡ 0x09 = same 0x40 (lit< tt) in
    let length : slice_index bytes 0x42 ≡ 0x20 = same 0x42 (lit< tt) in
    let control : slice_index bytes 0x43 ≡ 0 = same 0x43 (lit< tt) in
    let t = table shape protocol wiring (Address base) bytes same shaped in
    let c = common shape protocol wiring (Address base) bytes same shaped in
    let o = out shape protocol wiring (Address base) bytes same shaped in
    let b = field shape protocol wiring (Address base) bytes same base 0x58 8 (lit≤ tt) placed refl in
    rw (id, length, control, t, c, o, b) refl
vendor shape protocol wiring (Bar2 bits) bytes shaped placed same =
    let id : slice_index bytes 0x40 ≡ 0x09 = same 0x40 (lit< tt) in
    let length : slice_index bytes 0x42 ≡ 0x18 = same 0x42 (lit< tt) in
    let control : slice_index bytes 0x43 ≡ 0 = same 0x43 (lit< tt) in
    let t = table shape protocol wiring (Bar2 bits) bytes same shaped in
    let c = common shape protocol wiring (Bar2 bits) bytes same shaped in
    let o = out shape protocol wiring (Bar2 bits) bytes same shaped in
    rw (id, length, control, t, c, o) refl

-- The second capability is that of MSI-X.
msix : (shape : Shape) (protocol vectors : ℕ) (region : RegionPlace) (bytes : List ℕ) → IsWiring (Msix vectors) →
    ((k : ℕ) → k < 256 → slice_index bytes k ≡ reset_byte (placed_rows shape protocol (Msix vectors) region) k) →
    listed_with bytes 0x60 (record { vendor = Some (vendor_of shape region); msix = None }) ≡ Ok (record { vendor = Some (vendor_of shape region); msix = msix_of (Msix vectors) })
msix shape protocol vectors (Address base) bytes wired same =
    let id : slice_index bytes 0x60 ≡ 0x11 = same 0x60 (lit< tt) in
    let control = field shape protocol (Msix vectors) (Address base) bytes same (vectors - 1) 0x62 2 (lit≤ tt) (omega arith) refl in
    let place = field shape protocol (Msix vectors) (Address base) bytes same 0x0000_0001 0x64 4 (lit≤ tt) (lit< tt) refl in
    let pending = field shape protocol (Msix vectors) (Address base) bytes same 0x0000_0801 0x68 4 (lit≤ tt) (lit< tt) refl in
    let count : (vectors - 1) % 2048 + 1 ≡ vectors = omega arith in
    rw (id, control, place, pending, count) refl
msix shape protocol vectors (Bar2 bits) bytes wired same =
    let id : slice_index bytes 0x60 ≡ 0x11 = same 0x60 (lit< tt) in
    let control = field shape protocol (Msix vectors) (Bar2 bits) bytes same (vectors - 1) 0x62 2 (lit≤ tt) (omega arith) refl in
    let place = field shape protocol (Msix vectors) (Bar2 bits) bytes same 0x0000_0001 0x64 4 (lit≤ tt) (lit< tt) refl in
    let pending = field shape protocol (Msix vectors) (Bar2 bits) bytes same 0x0000_0801 0x68 4 (lit≤ tt) (lit< tt) refl in
    let count : (vectors - 1) % 2048 + 1 ≡ vectors = omega arith in
    rw (id, control, place, pending, count) refl

-- The MSI-X capability is the last one.
last_pointer : (shape : Shape) (protocol vectors : ℕ) (region : RegionPlace) (bytes : List ℕ) →
    ((k : ℕ) → k < 256 → slice_index bytes k ≡ reset_byte (placed_rows shape protocol (Msix vectors) region) k) → pointer_at bytes 0x61 ≡ 0
last_pointer shape protocol vectors (Address base) bytes same = pointer shape protocol (Msix vectors) (Address base) bytes same 0x61 (lit< tt)
last_pointer shape protocol vectors (Bar2 bits) bytes same = pointer shape protocol (Msix vectors) (Bar2 bits) bytes same 0x61 (lit< tt)

-- The whole list of a device.
comes : (shape : Shape) (protocol : ℕ) (wiring : Wiring) (region : RegionPlace) (bytes : List ℕ) → IsShape shape → IsWiring wiring → IsRegionPlace region →
    ((k : ℕ) → k < 256 → slice_index bytes k ≡ reset_byte (placed_rows shape protocol wiring region) k) →
    FollowsList bytes [] (pointer_at bytes 0x34) nothing_listed (Ok (record { vendor = Some (vendor_of shape region); msix = msix_of wiring }))
comes shape protocol (Msix vectors) region bytes shaped wired placed same =
    let last : Result Listed CapabilityFault = Ok (record { vendor = Some (vendor_of shape region); msix = msix_of (Msix vectors) }) in
    subst (λ p. FollowsList bytes [] p nothing_listed last) (sym (pointer shape protocol (Msix vectors) region bytes same 0x34 (lit< tt)))
    (continues [] 0x40 nothing_listed _ last (lit≤ tt) refl (vendor shape protocol (Msix vectors) region bytes shaped placed same)
    (subst (λ p. FollowsList bytes (0x40 ∷ []) p (record { vendor = Some (vendor_of shape region); msix = None }) last)
    (sym (pointer shape protocol (Msix vectors) region bytes same 0x41 (lit< tt)))
    (continues (0x40 ∷ []) 0x60 _ _ last (lit≤ tt) refl (msix shape protocol vectors region bytes wired same)
    (subst (λ p. FollowsList bytes (0x60 ∷ 0x40 ∷ []) p (record { vendor = Some (vendor_of shape region); msix = msix_of (Msix vectors) }) last)
    (sym (last_pointer shape protocol vectors region bytes same))
    (ends (0x60 ∷ 0x40 ∷ []) (record { vendor = Some (vendor_of shape region); msix = msix_of (Msix vectors) }))))))
comes shape protocol Intx region bytes shaped wired placed same =
    let last : Result Listed CapabilityFault = Ok (record { vendor = Some (vendor_of shape region); msix = None }) in
    subst (λ p. FollowsList bytes [] p nothing_listed last) (sym (pointer shape protocol Intx region bytes same 0x34 (lit< tt)))
    (continues [] 0x40 nothing_listed _ last (lit≤ tt) refl (vendor shape protocol Intx region bytes shaped placed same)
    (subst (λ p. FollowsList bytes (0x40 ∷ []) p (record { vendor = Some (vendor_of shape region); msix = None }) last)
    (sym (pointer shape protocol Intx region bytes same 0x41 (lit< tt)))
    (ends (0x40 ∷ []) (record { vendor = Some (vendor_of shape region); msix = None }))))

-- The walk finds what the space was made of.
pub finds_the_device : (shape : Shape) (protocol : ℕ) (wiring : Wiring) (region : RegionPlace) (bytes : List ℕ) → IsShape shape → protocol < 2 ^ 16 → IsWiring wiring → IsRegionPlace region →
    ((k : ℕ) → k < 256 → slice_index bytes k ≡ reset_byte (placed_rows shape protocol wiring region) k) → IsWalk bytes (Ok (found_of shape protocol wiring region))
finds_the_device shape protocol wiring region bytes shaped small wired placed same =
    let last : Result Listed CapabilityFault = Ok (record { vendor = Some (vendor_of shape region); msix = msix_of wiring }) in
    let answer : Result Found CapabilityFault = Ok (found_of shape protocol wiring region) in
    let found : answer ≡ found_in bytes last = rw (named shape protocol wiring region bytes same small) refl in
    subst (λ fault. MatchOption fault
    ((l : Result Listed CapabilityFault) × FollowsList bytes [] (pointer_at bytes 0x34) nothing_listed l × (answer ≡ found_in bytes l))
    (λ f. answer ≡ Err f)) (sym (head shape protocol wiring region bytes same)) (last, comes shape protocol wiring region bytes shaped wired placed same, found)
