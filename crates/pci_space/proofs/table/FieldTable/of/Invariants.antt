use Rattle.std.proofs.Common.{◌≡◌, take, drop}
use Rattle.pci_space.specs.Fields.{table_fault, first_fault}
use Rattle.pci_space.proofs.table.FieldTable.of.Given as goal

abbrev pub invariant-loop-n : goal.invariant-loop-n
invariant-loop-n g l = record {
  same : l.row-items ≡ l.fn.rows;
  rest : table_fault l.fn.rows l.bytes ≡ first_fault l.bytes (take l.n l.fn.rows) l.n (drop l.n l.fn.rows);
}
