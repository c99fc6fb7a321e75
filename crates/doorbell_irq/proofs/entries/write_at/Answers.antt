use Rattle.std.proofs.Common.{arith}
use Rattle.std.specs.Prelude.{IsOk}
use Rattle.doorbell_irq.proofs.EntryWrites.{on_ok, entry_set, entry_left}
use Rattle.doorbell_irq.proofs.entries.write_at.Goals as goal

pub returns-then-n-entries-clause-written : goal.returns-then-n-entries-clause-written
returns-then-n-entries-clause-written c =
    let ok : IsOk c.write.result = c.write.ensures.allowed.1 c.requires in
    entry_set c.args.entries.now c.args.n c.index-entries-n.result c.write.new.self c.args.offset c.args.value (omega arith)
    c.write.ensures.rows (on_ok c.write.result ok c.write.ensures.written)

pub returns-else-n-entries-clause-written : goal.returns-else-n-entries-clause-written
returns-else-n-entries-clause-written c = entry_left c.args.entries.now c.args.n c.args.offset c.args.value (omega arith)
