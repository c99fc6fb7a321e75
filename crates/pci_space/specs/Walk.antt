-- The walk over configuration bytes (the device's specification; PCI 3.0 for the list and MSI-X).
use Rattle.std.specs.Prelude.{ℕ, ◌≡◌, ◌≢◌, ◌+◌, ◌-◌, ◌/◌, ◌%◌, ◌<◌, ◌≤◌, Bool, true, false, ◌&&◌, ◌||◌, not, ◌==◌, nat_lt, if◌then◌else◌, List, [], ◌∷◌, slice_index, Option, Some, None, is_none, MatchOption, Result, Ok, Err}
use Rattle.std.specs.List.{list_any}
use Rattle.pci_space.specs.declared.sizes.TheConstants.{SPACE_LEN}
use Rattle.pci_space.specs.declared.found.Found.{Found}
use Rattle.pci_space.specs.declared.found.MsixFound.{MsixFound}
use Rattle.pci_space.specs.declared.found.Vendor.{Vendor}
use Rattle.pci_space.specs.declared.found.Listed.{Listed}
use Rattle.pci_space.specs.declared.found.CapabilityFault.{CapabilityFault}
use Rattle.pci_space.specs.declared.found.CapabilityFault.TheVariants.{NotThisDevice, BadClass, OutOfSpace, Loop, BadVendorLength, NoVendor}
use Rattle.pci_space.specs.Numbers.{number_from}

-- The number in the `count` bytes from an offset on, the lowest byte first.
abbrev pub number_at : List ℕ → ℕ → ℕ → ℕ
number_at bytes at count = number_from (slice_index bytes) at count

-- The pointer at an offset, with its low two bits cleared (PCI 3.0, 6.7).
abbrev pub pointer_at : List ℕ → ℕ → ℕ
pointer_at bytes at = slice_index bytes at - slice_index bytes at % 4

-- The vendor capability at p: its length is 18h or 20h, and only the longer one has a base.
abbrev pub vendor_at : List ℕ → ℕ → Result Vendor CapabilityFault
vendor_at bytes p =
    let length = slice_index bytes (p + 2) in
    if not (length == 0x18 || length == 0x20) then Err (BadVendorLength length)
    else if nat_lt SPACE_LEN (p + length) then Err (OutOfSpace p)
    else Ok (record {
      one_shot = slice_index bytes (p + 3) % 2 == 1;
      table = number_at bytes (p + 4) 4;
      common = number_at bytes (p + 8) 8;
      out = number_at bytes (p + 16) 8;
      base = if length == 0x20 then Some (number_at bytes (p + 24) 8) else None;
    })

-- The MSI-X capability at p, of 12 bytes.
abbrev pub msix_at : List ℕ → ℕ → Result MsixFound CapabilityFault
msix_at bytes p =
    if nat_lt SPACE_LEN (p + 12) then Err (OutOfSpace p)
    else Ok (record { vectors = number_at bytes (p + 2) 2 % 2048 + 1; table = number_at bytes (p + 4) 4; pending = number_at bytes (p + 8) 4 })

-- The findings at the start of the list: none.
abbrev pub nothing_listed : Listed
nothing_listed = record { vendor = None; msix = None }

-- The findings after a vendor capability.
abbrev pub with_vendor : Listed → Result Vendor CapabilityFault → Result Listed CapabilityFault
with_vendor so_far (Ok vendor) = Ok (record { vendor = Some vendor; msix = so_far.msix })
with_vendor so_far (Err fault) = Err fault

-- The findings after an MSI-X capability.
abbrev pub with_msix : Listed → Result MsixFound CapabilityFault → Result Listed CapabilityFault
with_msix so_far (Ok msix) = Ok (record { vendor = so_far.vendor; msix = Some msix })
with_msix so_far (Err fault) = Err fault

-- The findings after the capability at p: only the first capability of each of the two IDs counts.
abbrev pub listed_with : List ℕ → ℕ → Listed → Result Listed CapabilityFault
listed_with bytes p so_far =
    if slice_index bytes p == 0x09 && is_none so_far.vendor then with_vendor so_far (vendor_at bytes p)
    else if slice_index bytes p == 0x11 && is_none so_far.msix then with_msix so_far (msix_at bytes p)
    else Ok so_far

-- A pointer occurs in the list before.
abbrev pub is_met : List ℕ → ℕ → Bool
is_met met p = list_any (λ q. q == p) met

-- The list continues at pointer p, after the pointers met, and has this end. Pointer 0 ends the
-- list. A pointer below 40h, a pointer that occurs twice and a faulty capability end it with a
-- fault. Any other capability leads to the next pointer.
pub data FollowsList (bytes : List ℕ) : List ℕ → ℕ → Listed → Result Listed CapabilityFault → Type 0 where
  ends : (met : List ℕ) (so_far : Listed) → FollowsList bytes met 0 so_far (Ok so_far)
  is_low : (met : List ℕ) (p : ℕ) (so_far : Listed) → p ≢ 0 → p < 0x40 → FollowsList bytes met p so_far (Err (OutOfSpace p))
  loops : (met : List ℕ) (p : ℕ) (so_far : Listed) → 0x40 ≤ p → is_met met p ≡ true → FollowsList bytes met p so_far (Err (Loop p))
  fails : (met : List ℕ) (p : ℕ) (so_far : Listed) (fault : CapabilityFault) → 0x40 ≤ p → is_met met p ≡ false →
      listed_with bytes p so_far ≡ Err fault → FollowsList bytes met p so_far (Err fault)
  continues : (met : List ℕ) (p : ℕ) (so_far next : Listed) (last : Result Listed CapabilityFault) → 0x40 ≤ p → is_met met p ≡ false →
      listed_with bytes p so_far ≡ Ok next → FollowsList bytes (p ∷ met) (pointer_at bytes (p + 1)) next last → FollowsList bytes met p so_far last

-- The device that is found, if the list has a vendor capability. The protocol has the Interface in
-- its low byte and the Sub-Class in its high byte.
abbrev pub found_by : List ℕ → Option Vendor → Option MsixFound → Result Found CapabilityFault
found_by bytes (Some vendor) msix = Ok (record {
  protocol = number_at bytes 0x09 2;
  one_shot = vendor.one_shot;
  table = vendor.table;
  common = vendor.common;
  out = vendor.out;
  base = vendor.base;
  msix = msix;
})
found_by bytes None msix = Err NoVendor

-- The device that is found at the end of the list.
abbrev pub found_in : List ℕ → Result Listed CapabilityFault → Result Found CapabilityFault
found_in bytes (Ok listed) = found_by bytes listed.vendor listed.msix
found_in bytes (Err fault) = Err fault

-- The fault before the list, if there is one: the IDs, then the Base Class, then Status bit 4,
-- without which there is no list.
abbrev pub head_fault : List ℕ → Option CapabilityFault
head_fault bytes =
    if not (number_at bytes 0x00 2 == 0x110A && number_at bytes 0x02 2 == 0x4106) then Some (NotThisDevice (number_at bytes 0x00 2) (number_at bytes 0x02 2))
    else if not (slice_index bytes 0x0B == 0xFF) then Some (BadClass (slice_index bytes 0x0B))
    else if slice_index bytes 0x06 / 16 % 2 == 0 then Some NoVendor
    else None

-- The result of a walk over these bytes.
abbrev pub IsWalk : List ℕ → Result Found CapabilityFault → Type 0
IsWalk bytes answer = MatchOption (head_fault bytes)
    ((last : Result Listed CapabilityFault) × FollowsList bytes [] (pointer_at bytes 0x34) nothing_listed last × (answer ≡ found_in bytes last))
    (λ fault. answer ≡ Err fault)
