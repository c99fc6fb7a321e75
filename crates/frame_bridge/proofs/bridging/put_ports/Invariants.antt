use Rattle.std.proofs.Common.{◌≡◌, ◌++◌}
use Rattle.std.specs.List.{flat_map}
use Rattle.line_format.specs.Rows.{text_of}
use Rattle.frame_bridge.specs.Forwarding.{first_ports}
use Rattle.frame_bridge.specs.Run.{World}
use Rattle.frame_bridge.specs.Output.{pieces_of, port_rows}
use Rattle.frame_bridge.specs.Refinement.{ArePorts}
use Rattle.frame_bridge.proofs.bridging.put_ports.Given as goal

-- The ports so far.
abbrev pub invariant-loop-number : goal.invariant-loop-number
invariant-loop-number l = (w : World) → ArePorts w l.ports → l.out.items ≡ l.fn.out.items ++ text_of pieces_of (flat_map (port_rows w) (first_ports l.number))
