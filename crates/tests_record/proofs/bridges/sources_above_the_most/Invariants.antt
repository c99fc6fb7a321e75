use Rattle.std.proofs.Common.{◌≡◌}
use Rattle.tests_record.proofs.bridges.sources_above_the_most.Given as goal

abbrev pub invariant-loop-number : goal.invariant-loop-number
invariant-loop-number g l = l.bridge.ports ≡ 3
