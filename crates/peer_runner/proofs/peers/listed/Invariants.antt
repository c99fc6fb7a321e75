use Rattle.std.proofs.Common.{◌≡◌}
use Rattle.std.specs.Prelude.{map}
use Rattle.record_text.specs.OwnParts.{part_of}
use Rattle.peer_runner.proofs.peers.listed.Given as goal

-- The traces so far.
abbrev pub invariant-loop-trace : goal.invariant-loop-trace
invariant-loop-trace l = l.list ≡ map part_of l.yielded
