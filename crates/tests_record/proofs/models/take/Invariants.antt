use Rattle.std.proofs.Common.{◌≡◌}
use Rattle.tests_record.proofs.models.take.Given as goal

abbrev pub invariant-loop-line : goal.invariant-loop-line
invariant-loop-line l = l.run.fault ≡ l.initial.run.fault
