use Rattle.std.proofs.Common.{◌≡◌}
use Rattle.tests_device.proofs.layouts.map_of_a_region.Given as goal

abbrev pub invariant-loop-word : goal.invariant-loop-word
invariant-loop-word g l = l.region.shape.peers ≡ 2
