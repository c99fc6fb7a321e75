use Rattle.std.proofs.Common.{ℕ, List, [], length}
use Rattle.scenario_text.specs.Scenario.{World}
use Rattle.record_text.specs.Readers.{IsReading}
use Rattle.ivshm_chart.proofs.KeptLines.{Keeps}
use Rattle.ivshm_chart.proofs.fronts.read_lines.Given as goal

abbrev pub invariant-loop-lines : goal.invariant-loop-lines
invariant-loop-lines l = (bytes : List ℕ) (version : ℕ) (world : World) → IsReading bytes version world [] l.initial.reader → Keeps bytes version world l.most l.lines l.reader

abbrev pub decreases-loop-lines : goal.decreases-loop-lines
decreases-loop-lines l = length l.reader.rest.now
