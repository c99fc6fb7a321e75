use Rattle.std.proofs.Common.{◌≡◌, ◌+◌, ◌<◌, ◌≤◌, ◌++◌, length, sum_by}
use Rattle.record_chart.specs.Rows.{rows_of}
use Rattle.record_chart.specs.declared.rows.Row.{Row}
use Rattle.record_chart.proofs.GrowingRows.{rest_of}
use Rattle.record_chart.proofs.rows.rows_of.Given as goal

abbrev pub invariant-loop-at : goal.invariant-loop-at
invariant-loop-at l = record {
  some : 1 ≤ l.at;
  counted : sum_by (λ (row : Row). row.count) l.items.items + l.growing.count ≡ l.at;
  number : l.growing.first + l.growing.count ≡ l.first + l.at;
  few : length l.items.items < 2000;
  rows : l.items.items ++ rest_of l.storms l.first l.at l.growing l.lines ≡ rows_of l.storms l.first l.lines;
}
