use Rattle.std.proofs.Common.{string_bytes, subst}
use Rattle.section_dump.specs.Image.{words_from}
use Rattle.section_dump.specs.Lines.{Puts}
use Rattle.section_dump.specs.Listing.{IsItemLine}
use Rattle.section_dump.proofs.Items.{more_items}
use Rattle.section_dump.proofs.listing.put_items.Goals as goal

pub loop-step-preserved : goal.loop-step-preserved
loop-step-preserved c =
    let q = c.args.ring.now.queue in
    let words = words_from c.args.ring.now.image.now c.args.ring.now.first in
    more_items q words c.args.first c.loop-step.step (string_bytes c.args.text.now) (string_bytes c.loop-step.text) (string_bytes c.put_item.new.text)
    c.loop-step.invariant
    (subst (λ position. Puts (IsItemLine q words position) (string_bytes c.loop-step.text) (string_bytes c.put_item.new.text)) c.plus.ensures c.in_ok-put_item.ensures)
