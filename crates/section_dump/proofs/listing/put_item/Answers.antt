use Rattle.std.proofs.Common.{string_bytes}
use Rattle.std.proofs.lemmas.Result.{on_ok_weaker}
use Rattle.section_dump.specs.Image.{words_from}
use Rattle.section_dump.proofs.Items.{accepted_line, refused_line}
use Rattle.section_dump.proofs.listing.put_item.Goals as goal

pub returns-in-Ok : goal.returns-in-Ok
returns-in-Ok c = on_ok_weaker c.put_frame.result
    (accepted_line c.args.ring.now.queue (words_from c.args.ring.now.image.now c.args.ring.now.first) c.args.position
    c.in-Ok.item.entry c.in-Ok.item.address c.in-Ok.item.length c.frame-frame.result.now
    (string_bytes c.args.text.now) (string_bytes c.put_frame.new.text) c.in-Ok.ensures.accepted c.frame-frame.ensures)
    c.put_frame.ensures

pub returns-in-Err : goal.returns-in-Err
returns-in-Err c = on_ok_weaker c.put_bad.result
    (refused_line c.args.ring.now.queue (words_from c.args.ring.now.image.now c.args.ring.now.first) c.args.position
    c.in-Err.refused.field c.in-Err.refused.value
    (string_bytes c.args.text.now) (string_bytes c.put_bad.new.text) c.in-Err.ensures.refused)
    c.put_bad.ensures
