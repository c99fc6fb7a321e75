use Rattle.std.proofs.Common.{◌≡◌, drop}
use Rattle.pci_space.specs.Fields.{mask_byte}
use Rattle.pci_space.proofs.space.mask_at.Given as goal

abbrev pub invariant-loop-row : goal.invariant-loop-row
invariant-loop-row l = mask_byte l.rows l.k ≡ mask_byte (drop l.row-index l.rows) l.k
