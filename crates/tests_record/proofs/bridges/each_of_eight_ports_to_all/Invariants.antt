use Rattle.std.proofs.Common.{◌≡◌}
use Rattle.tests_record.proofs.bridges.each_of_eight_ports_to_all.Given as goal

abbrev pub invariant-loop-port : goal.invariant-loop-port
invariant-loop-port g l = l.bridge.ports ≡ 8
