use Rattle.std.proofs.Common.{◌≡◌, take}
use Rattle.frame_capture.specs.CaptureFile.{AreShort}
use Rattle.frame_capture.specs.Deliveries.{packets_from}
use Rattle.frame_capture.proofs.deliveries.captured.Given as goal

pub record SoFar (Put Short : Type 0) : Type 0 where
  pub put : Put
  pub short : Short

abbrev pub invariant-loop-index : goal.invariant-loop-index
invariant-loop-index l = SoFar (l.packets ≡ packets_from l.peer 1 (take l.index l.lines)) (AreShort l.packets)
