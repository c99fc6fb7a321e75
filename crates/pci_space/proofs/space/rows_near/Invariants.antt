use Rattle.std.proofs.Common.{◌≡◌, ℕ, ◌+◌, ◌<◌, ◌≤◌, length}
use Rattle.pci_space.specs.Fields.{mask_byte}
use Rattle.pci_space.proofs.space.rows_near.Given as goal

abbrev pub decreases-loop-near : goal.decreases-loop-near
decreases-loop-near l = length l.near

abbrev pub invariant-loop-near : goal.invariant-loop-near
invariant-loop-near l = (k : ℕ) → l.at ≤ k → k < l.at + l.count → mask_byte l.near k ≡ mask_byte l.rows k
