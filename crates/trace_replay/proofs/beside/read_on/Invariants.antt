use Rattle.std.proofs.Common.{ℕ, List, ◌++◌, length}
use Rattle.scenario_text.specs.Scenario.{World}
use Rattle.lawful_history.specs.declared.line.Line.{Line}
use Rattle.record_text.specs.Readers.{IsReading}
use Rattle.trace_replay.proofs.beside.read_on.Given as goal

-- Some lines were read.
abbrev pub invariant-loop-line : goal.invariant-loop-line
invariant-loop-line l = (bytes : List ℕ) (version : ℕ) (world : World) (lines : List Line) → IsReading bytes version world lines l.initial.reader →
    (more : List Line) × IsReading bytes version world (lines ++ more) l.reader

abbrev pub decreases-loop-line : goal.decreases-loop-line
decreases-loop-line l = length l.reader.rest.now
