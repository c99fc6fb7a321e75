use Rattle.std.proofs.Common.{ℕ, List}
use Rattle.frame_bridge.specs.declared.scripts.Sent.{Sent}
use Rattle.frame_bridge.specs.Run.{World, turn, times, ran}
use Rattle.frame_bridge.specs.Refinement.{IsThere}
use Rattle.frame_bridge.proofs.run.Run.port_turns.Given as goal

-- The turns of the station so far.
abbrev pub invariant-loop-station : goal.invariant-loop-station
invariant-loop-station l = (sent : List Sent) (ports : ℕ) (w : World) → IsThere sent ports w l.fn.self → IsThere sent ports (ran w (times l._station (turn l.port 0))) l.self

-- The turns of the bridge's end after them.
abbrev pub invariant-loop-own : goal.invariant-loop-own
invariant-loop-own l = (sent : List Sent) (ports : ℕ) (w : World) → IsThere sent ports w l.fn.self →
    IsThere sent ports (ran (ran w (times 64 (turn l.port 0))) (times l._own (turn l.port 1))) l.self
