use Rattle.frame_capture.proofs.WrittenParts.{packets-put, packets-fit}
use Rattle.frame_capture.proofs.printing.put_packets.Goals as goal

pub loop-packet-preserved : goal.loop-packet-preserved
loop-packet-preserved c = record {
  put = packets-put c.args.out.now.items c.loop-packet.out.items c.put_packet.new.out.items c.args.all.now c.loop-packet.packet-index c.packet-item.result
      c.loop-packet-test.true c.packet-item.is c.loop-packet.invariant.put c.in_ok-put_packet.ensures.put;
  fits = packets-fit c.args.all.now c.loop-packet.packet-index c.packet-item.result c.loop-packet-test.true c.packet-item.is
      c.loop-packet.invariant.fits c.in_ok-put_packet.ensures.fits;
}
