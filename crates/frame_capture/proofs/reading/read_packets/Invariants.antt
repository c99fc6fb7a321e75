use Rattle.std.proofs.Common.{◌≡◌, ◌++◌, length}
use Rattle.std.specs.Prelude.{All}
use Rattle.frame_capture.specs.CaptureFile.{packets_bytes, IsPacket}
use Rattle.frame_capture.proofs.reading.read_packets.Given as goal

pub record SoFar (Each Spelled : Type 0) : Type 0 where
  pub each : Each
  pub spelled : Spelled

abbrev pub invariant-loop-left : goal.invariant-loop-left
invariant-loop-left l = SoFar (All IsPacket l.all) (l.bytes ≡ packets_bytes l.order l.all ++ l.left)

abbrev pub decreases-loop-left : goal.decreases-loop-left
decreases-loop-left l = length l.left
