use Rattle.std.proofs.Common.{◌≡◌, ℕ, ◌≤◌, List, [], length}
use Rattle.std.specs.Prelude.{Result}
use Rattle.std.specs.List.{sum_by}
use Rattle.pci_space.specs.declared.found.Listed.{Listed}
use Rattle.pci_space.specs.declared.found.CapabilityFault.{CapabilityFault}
use Rattle.pci_space.specs.Walk.{pointer_at, FollowsList, nothing_listed}
use Rattle.pci_space.proofs.PointerMarks.{Marks, one_if_not}
use Rattle.pci_space.proofs.capabilities.follow_list.Given as goal

abbrev pub invariant-loop-p : goal.invariant-loop-p
invariant-loop-p l = record {
  small : l.p ≤ 252;
  marks : length l.met ≡ 256;
  after : ((met : List ℕ)
      × Marks l.met met
      × ((last : Result Listed CapabilityFault) → FollowsList l.bytes met l.p l.so_far last → FollowsList l.bytes [] (pointer_at l.bytes 0x34) nothing_listed last));
}

-- the bytes that aren't met
abbrev pub decreases-loop-p : goal.decreases-loop-p
decreases-loop-p l = sum_by one_if_not l.met
