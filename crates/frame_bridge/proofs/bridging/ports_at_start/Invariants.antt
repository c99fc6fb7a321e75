use Rattle.std.proofs.Common.{◌≡◌, ℕ, length, []}
use Rattle.std.specs.Prelude.{Some, slice_get}
use Rattle.frame_bridge.specs.declared.ports.Port.{Port}
use Rattle.frame_bridge.specs.Refinement.{PortRefines, start_link}
use Rattle.frame_bridge.proofs.bridging.ports_at_start.Given as goal

-- The ports so far.
abbrev pub invariant-loop-number : goal.invariant-loop-number
invariant-loop-number l = record {
  long : length l.ports.items ≡ l._number;
  each : (k : ℕ) (port : Port) → slice_get l.ports.items k ≡ Some port → PortRefines (start_link []) [] port;
}
