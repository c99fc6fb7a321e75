use Rattle.std.proofs.Common.{ℕ, List}
use Rattle.frame_bridge.specs.declared.scripts.Sent.{Sent}
use Rattle.frame_bridge.specs.Run.{World, schedule, ran}
use Rattle.frame_bridge.specs.Refinement.{IsThere}
use Rattle.frame_bridge.proofs.run.Run.rounds.Given as goal

-- The rounds so far.
abbrev pub invariant-loop-round : goal.invariant-loop-round
invariant-loop-round l = (sent : List Sent) (ports : ℕ) (w : World) → IsThere sent ports w l.fn.self → IsThere sent ports (ran w (schedule l._round ports)) l.self
