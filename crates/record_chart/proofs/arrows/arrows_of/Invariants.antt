use Rattle.std.proofs.Common.{◌≡◌, ◌-◌, ◌≤◌}
use Rattle.record_chart.specs.Arrows.{acceptances, delivery_count, arrows_of}
use Rattle.record_chart.proofs.ArrowsByLine.{past, all_arrows}
use Rattle.record_chart.proofs.arrows.arrows_of.Given as goal

abbrev pub invariant-loop-at : goal.invariant-loop-at
invariant-loop-at l = record {
  accepted : l.acceptances.items ≡ acceptances (1 - l.peer) (past l.at l.lines);
  delivered : l.delivered ≡ delivery_count l.peer (past l.at l.lines);
  few : l.delivered ≤ l.at;
  arrows : all_arrows l.peer l.first l.at l.arrows.items l.lines ≡ arrows_of l.peer l.first l.lines;
}
