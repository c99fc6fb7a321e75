use Rattle.std.proofs.Common.{◌≡◌, ◌+◌, ◌*◌, ◌-◌, take, drop, ap, ◌∙◌, arith}
use Rattle.section_dump.proofs.Bytes.{bytes_in}
use Rattle.section_dump.proofs.rings.bytes_from.Goals as goal

pub returns : goal.returns
returns c =
    let start = 4 * c.args.first + c.args.place in
    let count : start + c.args.count - start ≡ c.args.count = omega arith in
    ap (λ n. take n (drop start c.args.image.now)) count
    ∙ bytes_in c.args.image.now c.args.first c.args.place c.args.count (λ k. omega (arith, c.type_inv.image k)) c.requires
