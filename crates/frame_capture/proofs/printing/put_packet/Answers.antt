use Rattle.std.proofs.Common.{ℕ, List, ◌++◌, length, ap, ◌∙◌}
use Rattle.std.proofs.lemmas.Result.{on_ok_weaker}
use Rattle.frame_capture.specs.declared.order.Order.TheVariants.{Little}
use Rattle.frame_capture.specs.CaptureFile.{bytes_of}
use Rattle.frame_capture.proofs.WrittenParts.{five, put_well}
use Rattle.frame_capture.proofs.printing.put_packet.Goals as goal

pub returns-clause-put : goal.returns-clause-put
returns-clause-put c =
    let size = c.in_ok-put_u32-3.ensures ∙ ap (λ (f : List ℕ). c.put_u32-2.new.out.items ++ bytes_of Little 4 (length f)) c.bytes-frame.ensures in
    on_ok_weaker c.extend_from_slice.result
    (λ last. five _ _ _ _ _ _ _ _ _ _ _ c.in_ok-put_u32.ensures c.in_ok-put_u32-2.ensures size c.in_ok-put_u32-4.ensures
    (last ∙ ap (λ (f : List ℕ). c.put_u32-4.new.out.items ++ f) c.bytes-frame.ensures))
    (put_well c.extend_from_slice.result c.extend_from_slice.new.self.items (c.put_u32-4.new.out.items ++ c.bytes-frame.result.now) _ c.extend_from_slice.ensures.items)
