use Rattle.std.proofs.Common.{◌+◌, string_bytes, ap, ◌∙◌}
use Rattle.std.proofs.lemmas.Result.{on_ok_weaker}
use Rattle.section_map.specs.Geometry.{section_start}
use Rattle.section_dump.proofs.Bodies.{two_sections}
use Rattle.section_dump.proofs.listing.put_sections.Goals as goal

pub returns : goal.returns
returns c = on_ok_weaker c.put_section-2.result
    (two_sections c.args.image.now c.new-first.result.image.now c.new-second.result.image.now c.new-first.result.queue c.new-second.result.queue
    c.new-first.result.first c.new-second.result.first
    (string_bytes c.args.text.now) (string_bytes c.put_section.new.text) (string_bytes c.put_section-2.new.text)
    (c.new-first.ensures.queue ∙ c.requires.queue) (c.new-second.ensures.queue ∙ c.requires.queue)
    c.new-first.ensures.image c.new-second.ensures.image
    (c.new-first.ensures.first ∙ ap (λ n. 8 + n) (c.section_start.ensures.value ∙ ap (λ g. section_start g 0) c.requires.geometry))
    (c.new-second.ensures.first ∙ ap (λ n. 8 + n) (c.section_start-2.ensures.value ∙ ap (λ g. section_start g 1) c.requires.geometry))
    c.in_ok-put_section.ensures)
    c.put_section-2.ensures
