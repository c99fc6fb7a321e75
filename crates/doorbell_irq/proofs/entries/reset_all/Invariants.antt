use Rattle.std.proofs.Common.{◌≡◌, ℕ, ◌<◌, ◌≤◌, Some, length}
use Rattle.std.specs.Prelude.{slice_get}
use Rattle.pci_space.specs.Fields.{Contents}
use Rattle.doorbell_irq.specs.Registers.{IsSpaceReset}
use Rattle.doorbell_irq.proofs.entries.reset_all.Given as goal

abbrev pub invariant-loop-entry : goal.invariant-loop-entry
invariant-loop-entry l = record {
  count : length l.entries ≡ length l.initial.entries;
  done : (n : ℕ) (before after : Contents) → n < l.entry-index → slice_get l.initial.entries n ≡ Some before → slice_get l.entries n ≡ Some after →
      IsSpaceReset before after;
  left : (n : ℕ) → l.entry-index ≤ n → slice_get l.entries n ≡ slice_get l.initial.entries n;
}
