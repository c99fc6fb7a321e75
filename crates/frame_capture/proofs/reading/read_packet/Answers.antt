use Rattle.std.proofs.Common.{arith}
use Rattle.frame_capture.proofs.Cuts.{packet_at}
use Rattle.frame_capture.proofs.reading.read_packet.Goals as goal

pub returns-clause-packet : goal.returns-clause-packet
returns-clause-packet c =
    packet_at c.args.order _ c.args.bytes.now c.u32_at-size.result (λ i. omega (arith, c.type_inv.bytes i)) (omega arith) (omega arith) (omega arith)
    (omega arith) (omega arith) c.u32_at.ensures c.u32_at-2.ensures c.u32_at-size.ensures c.u32_at-3.ensures c.in_ok-frame.ensures
