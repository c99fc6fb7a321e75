use Rattle.std.proofs.Common.{ℕ, List}
use Rattle.std.specs.List.{flat_map}
use Rattle.frame_bridge.specs.declared.scripts.Sent.{Sent}
use Rattle.frame_bridge.specs.Forwarding.{first_ports}
use Rattle.frame_bridge.specs.Run.{World, turns_of, ran}
use Rattle.frame_bridge.specs.Refinement.{IsThere}
use Rattle.frame_bridge.proofs.run.Run.round.Given as goal

-- The ports so far.
abbrev pub invariant-loop-port : goal.invariant-loop-port
invariant-loop-port l = (sent : List Sent) (ports : ℕ) (w : World) → IsThere sent ports w l.fn.self → IsThere sent ports (ran w (flat_map turns_of (first_ports l.port))) l.self
