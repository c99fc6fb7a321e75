use Rattle.std.proofs.Common.{◌≡◌, ℕ, ◌<◌, ◌≤◌, ◌-◌, length, get_or}
use Rattle.pci_space.specs.Numbers.{number_byte}
use Rattle.pci_space.proofs.space.write_reset.Given as goal

abbrev pub invariant-loop-k : goal.invariant-loop-k
invariant-loop-k l = record {
  size : length l.bytes ≡ length l.initial.bytes;
  before : (j : ℕ) → j < l.place → get_or l.bytes j 0 ≡ get_or l.initial.bytes j 0;
  done : (j : ℕ) → l.place ≤ j → j < l.k → get_or l.bytes j 0 ≡ number_byte l.row.reset (j - l.place);
  left : (j : ℕ) → l.k ≤ j → get_or l.bytes j 0 ≡ get_or l.initial.bytes j 0;
}
