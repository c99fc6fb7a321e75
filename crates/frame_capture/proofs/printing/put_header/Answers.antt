use Rattle.std.proofs.lemmas.Result.{on_ok_weaker}
use Rattle.frame_capture.proofs.WrittenParts.{seven}
use Rattle.frame_capture.proofs.printing.put_header.Goals as goal

pub returns-clause-put : goal.returns-clause-put
returns-clause-put c = on_ok_weaker c.put_u32-5.result
    (seven _ _ _ _ _ _ _ _ _ _ _ _ _ _ _ c.in_ok-put_u32.ensures c.in_ok-put_u16.ensures c.in_ok-put_u16-2.ensures c.in_ok-put_u32-2.ensures
    c.in_ok-put_u32-3.ensures c.in_ok-put_u32-4.ensures)
    c.put_u32-5.ensures
