use Rattle.std.proofs.Common.{string_bytes, ap, ◌∙◌}
use Rattle.std.proofs.lemmas.Result.{on_ok_weaker}
use Rattle.section_dump.proofs.Bodies.{body_without, body_with}
use Rattle.section_dump.proofs.listing.put_body.Goals as goal

pub returns-in_ok-put_no_queue-in-None : goal.returns-in_ok-put_no_queue-in-None
returns-in_ok-put_no_queue-in-None c = on_ok_weaker c.put_states.result
    (body_without c.args.image.now c.args.out c.peers.result
    (string_bytes c.args.text.now) (string_bytes c.put_no_queue.new.text) (string_bytes c.put_states.new.text)
    c.requires.out (c.peers.ensures.value ∙ ap (λ g. g.peers) c.requires.geometry) c.in-None.ensures.size
    c.in_ok-put_no_queue-in-None.ensures)
    c.put_states.ensures

pub returns-in_ok-put_states-in-Some : goal.returns-in_ok-put_states-in-Some
returns-in_ok-put_states-in-Some c = on_ok_weaker c.put_sections.result
    (body_with c.args.image.now c.in-Some.queue c.args.out c.peers-in-Some.result
    (string_bytes c.args.text.now) (string_bytes c.put_queue.new.text) (string_bytes c.put_states-in-Some.new.text) (string_bytes c.put_sections.new.text)
    c.requires.out (c.peers-in-Some.ensures.value ∙ ap (λ g. g.peers) c.requires.geometry) c.in-Some.ensures.queue c.in-Some.ensures.size
    c.in_ok-put_queue-in-Some.ensures c.in_ok-put_states-in-Some.ensures)
    c.put_sections.ensures
