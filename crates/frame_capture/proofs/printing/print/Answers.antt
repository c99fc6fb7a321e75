use Rattle.std.proofs.Common.{◌≡◌, ℕ, List, ◌++◌, ap, subst, ◌∙◌}
use Rattle.std.specs.Prelude.{All}
use Rattle.frame_capture.specs.declared.order.Order.TheVariants.{Little}
use Rattle.frame_capture.specs.declared.packets.Packet.{Packet}
use Rattle.frame_capture.specs.CaptureFile.{header_bytes, packets_bytes, IsPacket}
use Rattle.frame_capture.proofs.WrittenParts.{printed_file}
use Rattle.frame_capture.proofs.printing.print.Goals as goal

pub returns-clause-file : goal.returns-clause-file
returns-clause-file c =
    let head : c.put_header.new.out.items ≡ header_bytes Little 0 0 c.args.capture.now.snaplen = c.in_ok-put_header.ensures.put ∙ ap (λ (t : List ℕ). t ++ header_bytes Little 0 0 c.args.capture.now.snaplen) c.new-out.ensures.items in
    printed_file c.args.capture.now c.put_packets.new.out.items c.in_ok-put_header.ensures.fits (subst (All IsPacket) c.items.ensures c.in_ok-put_packets.ensures.fits)
    (c.in_ok-put_packets.ensures.put ∙ ap (λ (t : List ℕ). t ++ packets_bytes Little c.items.result.now) head ∙ ap (λ (ps : List Packet). header_bytes Little 0 0 c.args.capture.now.snaplen ++ packets_bytes Little ps) c.items.ensures)
