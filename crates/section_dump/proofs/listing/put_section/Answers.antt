use Rattle.std.proofs.Common.{◌++◌, string_bytes, ap, ◌∙◌}
use Rattle.std.proofs.lemmas.Result.{on_ok_weaker}
use Rattle.split_ring.specs.Spelling.{used_index}
use Rattle.section_dump.specs.Image.{words_from}
use Rattle.section_dump.specs.Lines.{Bad, line_of}
use Rattle.section_dump.proofs.Items.{listed_section, refused_section}
use Rattle.section_dump.proofs.listing.put_section.Goals as goal

pub returns-in-Ok : goal.returns-in-Ok
returns-in-Ok c =
    let others = words_from c.args.other.now.image.now c.args.other.now.first in
    on_ok_weaker c.put_items.result
    (listed_section c.args.ring.now.queue (words_from c.args.ring.now.image.now c.args.ring.now.first) others c.args.peer
    c.available_index-available.result c.used_index-used.result c.in-Ok.count
    (string_bytes c.args.text.now) (string_bytes c.put_section.new.text) (string_bytes c.put_items.new.text)
    c.available_index-available.ensures (c.used_index-used.ensures ∙ ap (λ q. used_index q others) c.requires) c.in-Ok.ensures.inside
    c.in_ok-put_section.ensures)
    c.put_items.ensures

pub returns-in-Err : goal.returns-in-Err
returns-in-Err c =
    let others = words_from c.args.other.now.image.now c.args.other.now.first in
    let text = string_bytes c.put_section.new.text in
    let available = c.available_index-available.result in
    on_ok_weaker c.put_bad.result
    (λ puts. refused_section c.args.ring.now.queue (words_from c.args.ring.now.image.now c.args.ring.now.first) others c.args.peer
    available c.used_index-used.result
    (string_bytes c.args.text.now) text (string_bytes c.put_bad.new.text)
    c.available_index-available.ensures (c.used_index-used.ensures ∙ ap (λ q. used_index q others) c.requires) c.in-Err.ensures.outside.0
    c.in_ok-put_section.ensures (puts ∙ ap (λ r. text ++ line_of (Bad available r.field r.value)) c.in-Err.ensures.outside.1))
    c.put_bad.ensures
