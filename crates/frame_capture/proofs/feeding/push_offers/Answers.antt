use Rattle.std.proofs.Common.{◌∙◌, sym}
use Rattle.frame_capture.proofs.Offered.{offers-with, offers-without, frames-more, frames-same}
use Rattle.frame_capture.proofs.feeding.push_offers.Goals as goal
use Rattle.frame_capture.proofs.feeding.push_offers.Goals.{then-is_offered+in_ok-act+in_ok-push, else-is_offered}

pub loop-packet-preserved : goal.loop-packet-preserved
loop-packet-preserved c =
    elim c.if-is_offered.branch [
      | then-is_offered+in_ok-act+in_ok-push w ↦ record {
        put = offers-with c.args.acts.now c.loop-packet.acts c.if-is_offered.acts c.args.peer c.args.packets.now c.loop-packet.packet-index c.packet-item.result w.in_ok-act.act
            c.loop-packet-test.true c.packet-item.is (sym w.if-is_offered.ensures) (w.acts-is ∙ w.in_ok-push.ensures.ok) w.in_ok-act.ensures.act c.loop-packet.invariant.put;
        frames = frames-more c.args.packets.now c.loop-packet.packet-index c.packet-item.result c.loop-packet-test.true c.packet-item.is (sym w.if-is_offered.ensures)
            w.in_ok-act.ensures.frame c.loop-packet.invariant.frames;
      }
      | else-is_offered w ↦ record {
        put = offers-without c.args.acts.now c.loop-packet.acts c.if-is_offered.acts c.args.peer c.args.packets.now c.loop-packet.packet-index c.packet-item.result
            c.loop-packet-test.true c.packet-item.is (sym w.if-is_offered.ensures) w.acts-is c.loop-packet.invariant.put;
        frames = frames-same c.args.packets.now c.loop-packet.packet-index c.packet-item.result c.loop-packet-test.true c.packet-item.is (sym w.if-is_offered.ensures) c.loop-packet.invariant.frames;
      }
    ]
