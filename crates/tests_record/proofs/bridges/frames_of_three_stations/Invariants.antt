use Rattle.std.proofs.Common.{◌≡◌}
use Rattle.tests_record.proofs.bridges.frames_of_three_stations.Given as goal

abbrev pub invariant-loop-port : goal.invariant-loop-port
invariant-loop-port g l = l.bridge.ports ≡ 3
