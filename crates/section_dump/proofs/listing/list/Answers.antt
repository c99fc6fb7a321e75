use Rattle.std.proofs.Common.{[], ◌∷◌, string_bytes, ap}
use Rattle.section_dump.specs.Lines.{Peers, Table, Common, Out}
use Rattle.section_dump.proofs.Bodies.{listing}
use Rattle.section_dump.proofs.listing.list.Goals as goal

pub returns : goal.returns
returns c =
    let h = c.args.header.now in
    listing c.args.image.now (Peers h.peers ∷ Table h.table ∷ Common h.common ∷ Out h.out ∷ [])
    (string_bytes c.new-text.result) (string_bytes c.put_head.new.text) (string_bytes c.put_body.new.text) (string_bytes c.put_end.new.text)
    c.new-text.ensures.bytes (ap (λ z. Peers z.peers ∷ Table z.table ∷ Common z.common ∷ Out z.out ∷ []) c.requires.header)
    c.in_ok-put_head.ensures c.in_ok-put_body.ensures c.in_ok-put_end.ensures
