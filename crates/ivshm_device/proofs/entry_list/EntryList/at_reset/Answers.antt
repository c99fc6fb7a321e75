use Rattle.std.proofs.Common.{arith, length-append, ◌∷◌, [], ap, length, ℕ}
use Rattle.pci_space.specs.Fields.{Contents}
use Rattle.doorbell_irq.specs.Registers.{IsEntryAtReset}
use Rattle.ivshm_device.proofs.Pushed.{pushed_each}
use Rattle.ivshm_device.proofs.entry_list.EntryList.at_reset.Goals as goal

pub loop-number-preserved : goal.loop-number-preserved
loop-number-preserved c = record {
  long = omega (arith, ap length c.push_reserved.ensures.items, length-append c.loop-number.entries.items (c.entry_at_reset.result ∷ []), c.loop-number.invariant.long);
  len = omega (arith, c.push_reserved.ensures.len, c.loop-number.invariant.len);
  room = omega (arith, c.push_reserved.ensures.capacity, c.loop-number.invariant.room);
  each = pushed_each (λ (n : ℕ) (entry : Contents). IsEntryAtReset entry) c.loop-number.entries.items c.push_reserved.new.self.items c.entry_at_reset.result c.push_reserved.ensures.items
      (record { rows = c.entry_at_reset.ensures.rows; bytes = c.entry_at_reset.ensures.bytes }) c.loop-number.invariant.each;
}
