use Rattle.std.proofs.Common.{◌≡◌, ℕ, ◌<◌, ◌-◌, length, drop, get_or}
use Rattle.pci_space.specs.Fields.{reset_byte}
use Rattle.pci_space.proofs.space.bytes_at_reset.Given as goal

abbrev pub invariant-loop-n : goal.invariant-loop-n
invariant-loop-n g l = record {
  size : length l.bytes ≡ g.row.B;
  done : (j : ℕ) → j < g.row.B → get_or l.bytes j 0 ≡ reset_byte (drop (length l.rows - l.n) l.rows) j;
}
