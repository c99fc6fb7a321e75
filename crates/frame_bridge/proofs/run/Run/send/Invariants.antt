use Rattle.std.proofs.Common.{◌≡◌, ℕ, length, []}
use Rattle.frame_bridge.specs.Run.{started}
use Rattle.frame_bridge.specs.Refinement.{RunRefines}
use Rattle.frame_bridge.proofs.run.Run.send.Given as goal

-- The frames so far were given to their stations.
abbrev pub invariant-loop-one : goal.invariant-loop-one
invariant-loop-one l = record {
  long : length l.self.ports.items ≡ length l.fn.self.ports.items;
  refines : (ports : ℕ) → RunRefines ports (started []) l.fn.self → RunRefines ports (started l.yielded) l.self;
}
