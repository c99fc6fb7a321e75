use Rattle.std.proofs.Common.{◌≡◌, ℕ, ◌<◌, ◌≤◌, ◌-◌, get_or}
use Rattle.pci_space.specs.Fields.{mask_byte, merged}
use Rattle.pci_space.specs.Numbers.{number_byte}
use Rattle.pci_space.proofs.space.write_bytes.Given as goal

abbrev pub invariant-loop-k : goal.invariant-loop-k
invariant-loop-k l = record {
  before : (j : ℕ) → j < l.at → get_or l.bytes j 0 ≡ get_or l.initial.bytes j 0;
  done : (j : ℕ) → l.at ≤ j → j < l.k → get_or l.bytes j 0 ≡ merged (get_or l.initial.bytes j 0) (number_byte l.value (j - l.at)) (mask_byte l.rows j);
  left : (j : ℕ) → l.k ≤ j → get_or l.bytes j 0 ≡ get_or l.initial.bytes j 0;
}
