use Rattle.std.proofs.Common.{◌≡◌}
use Rattle.std.specs.Prelude.{filter}
use Rattle.frame_bridge.specs.Forwarding.{goes_to, first_ports}
use Rattle.frame_bridge.proofs.learning.ports_of.Given as goal

-- The ports so far.
abbrev pub invariant-loop-to : goal.invariant-loop-to
invariant-loop-to l = l.ports.items ≡ filter (goes_to l.known l.from) (first_ports l.to)
