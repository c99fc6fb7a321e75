use Rattle.std.proofs.Common.{◌≡◌, drop}
use Rattle.pci_space.specs.Fields.{overlap_fault}
use Rattle.pci_space.proofs.table.first_overlap.Given as goal

abbrev pub invariant-loop-m : goal.invariant-loop-m
invariant-loop-m l = overlap_fault l.row l.n 0 l.earlier ≡ overlap_fault l.row l.n l.m (drop l.m l.earlier)
