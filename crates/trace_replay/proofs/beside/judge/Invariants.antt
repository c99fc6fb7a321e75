use Rattle.std.proofs.Common.{ℕ, List, length}
use Rattle.trace_replay.specs.Beside.{IsBeside}
use Rattle.trace_replay.proofs.beside.judge.Given as goal

abbrev pub invariant-loop-line : goal.invariant-loop-line
invariant-loop-line l = record {
  beside : (bytes : List ℕ) → IsBeside bytes l.initial.expected_run l.initial.reader → IsBeside bytes l.expected_run l.reader;
  some : (bytes : List ℕ) × IsBeside bytes l.expected_run l.reader;
}

abbrev pub decreases-loop-line : goal.decreases-loop-line
decreases-loop-line l = length l.reader.rest.now
