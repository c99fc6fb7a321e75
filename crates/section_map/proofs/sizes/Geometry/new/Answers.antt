use Rattle.std.proofs.Common.{rules}
use Rattle.section_map.proofs.SizesAreShape.{IsShape-shape_of}
use Rattle.section_map.proofs.sizes.Geometry.new.Goals as goal

pub invariant_of-result : goal.invariant_of-result
invariant_of-result c =
    let p = c.args in
    IsShape-shape_of p.peers p.table p.common p.out (search rules) (search rules) (search rules) (search rules) (search rules) (search rules)

pub returns-clause-shape : goal.returns-clause-shape
returns-clause-shape c =
    let p = c.args in
    IsShape-shape_of p.peers p.table p.common p.out (search rules) (search rules) (search rules) (search rules) (search rules) (search rules)
