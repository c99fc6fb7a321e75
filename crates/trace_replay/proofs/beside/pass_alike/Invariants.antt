use Rattle.std.proofs.Common.{ℕ, List, length}
use Rattle.trace_replay.specs.Beside.{IsBeside}
use Rattle.trace_replay.proofs.beside.pass_alike.Given as goal

abbrev pub invariant-loop-waiting : goal.invariant-loop-waiting
invariant-loop-waiting l = record {
  beside : (bytes : List ℕ) → IsBeside bytes l.initial.expected_run l.initial.reader → IsBeside bytes l.expected_run l.reader;
  some : (bytes : List ℕ) × IsBeside bytes l.expected_run l.reader;
}

abbrev pub decreases-loop-waiting : goal.decreases-loop-waiting
decreases-loop-waiting l = length l.reader.rest.now
