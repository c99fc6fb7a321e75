use Rattle.std.proofs.Common.{ℕ, ◌+◌, List, length, drop, sym, ap, subst, ◌∙◌}
use Rattle.std.specs.Prelude.{All}
use Rattle.std.proofs.lemmas.List.{take_rest}
use Rattle.frame_capture.specs.CaptureFile.{IsPacket}
use Rattle.frame_capture.proofs.Cuts.{all-more, packets-more}
use Rattle.frame_capture.proofs.reading.read_packets.Goals as goal

pub loop-left-preserved : goal.loop-left-preserved
loop-left-preserved c =
    let pushed = c.in_ok-push.ensures.ok in
    record {
      each = subst (All IsPacket) (sym pushed) (all-more IsPacket c.loop-left.all _ c.loop-left.invariant.each c.in-Ok.ensures.packet.is_packet);
      spelled = rw pushed (packets-more c.args.order c.loop-left.all _ c.args.bytes.now c.loop-left.left.now _ c.loop-left.invariant.spelled c.in-Ok.ensures.packet
          (take_rest c.loop-left.left.now (16 + length c.bytes.result.now) ∙ ap (λ (t : List ℕ). drop (16 + length t) c.loop-left.left.now) c.bytes.ensures));
    }
