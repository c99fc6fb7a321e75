use Rattle.std.proofs.Common.{◌≡◌, ◌++◌, take}
use Rattle.std.specs.Prelude.{All}
use Rattle.frame_capture.specs.declared.order.Order.TheVariants.{Little}
use Rattle.frame_capture.specs.CaptureFile.{packets_bytes, IsPacket}
use Rattle.frame_capture.proofs.printing.put_packets.Given as goal

pub record SoFar (Put Fits : Type 0) : Type 0 where
  pub put : Put
  pub fits : Fits

abbrev pub invariant-loop-packet : goal.invariant-loop-packet
invariant-loop-packet l = SoFar (l.out.items ≡ l.fn.out.items ++ packets_bytes Little (take l.packet-index l.all)) (All IsPacket (take l.packet-index l.all))
