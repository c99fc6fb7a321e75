use Rattle.std.proofs.Common.{◌≡◌, ℕ, length}
use Rattle.std.specs.Prelude.{Some, slice_get}
use Rattle.pci_space.specs.Fields.{Contents}
use Rattle.doorbell_irq.specs.Registers.{IsEntryAtReset}
use Rattle.ivshm_device.proofs.entry_list.EntryList.at_reset.Given as goal

-- The entries so far are at reset.
abbrev pub invariant-loop-number : goal.invariant-loop-number
invariant-loop-number l = record {
  long : length l.entries.items ≡ l._number;
  len : l.entries.len ≡ l._number;
  room : l.entries.cap ≡ l.count;
  each : (n : ℕ) (entry : Contents) → slice_get l.entries.items n ≡ Some entry → IsEntryAtReset entry;
}
