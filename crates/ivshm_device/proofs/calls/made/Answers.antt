use Rattle.std.proofs.Common.{subst, sym, arith, ap, rules}
use Rattle.section_map.specs.Faults.{IsPages, IsSomePages}
use Rattle.section_map.specs.Geometry.{IsShape, word_count}
use Rattle.ivshm_device.specs.declared.crossing.World.{World}
use Rattle.ivshm_device.specs.Answers.{shape_in, HasSizes, RefusesNew, bad_vectors, many_peers, bad_sizes, bad_base, no_memory}
use Rattle.ivshm_device.proofs.calls.made.Goals as goal
use Rattle.ivshm_device.proofs.calls.made.Goals.{then-world-ne0-via-then-world-ne0, then-world-ne0-via-else-world-ne0+then-world-bytes}

-- the sizes of a world whose geometry is made
sizes : (w : World) → IsSomePages w.table × IsPages w.common × IsSomePages w.out → IsShape (shape_in w) → HasSizes w
sizes w pages shaped = (pages.0, pages.1, pages.2, shaped)

pub returns-then-world-gt-MOST_VECTORS-clause-refused : goal.returns-then-world-gt-MOST_VECTORS-clause-refused
returns-then-world-gt-MOST_VECTORS-clause-refused c = bad_vectors c.if-world-gt-MOST_VECTORS.true

pub returns-then-world-gt8-clause-refused : goal.returns-then-world-gt8-clause-refused
returns-then-world-gt8-clause-refused c = many_peers c.if-world-gt-MOST_VECTORS.false c.if-world-gt8.true

pub returns-in-Err-clause-refused : goal.returns-in-Err-clause-refused
returns-in-Err-clause-refused c = subst (RefusesNew c.args.world.now) (sym c.geometry_status.ensures)
    (bad_sizes c.if-world-gt-MOST_VECTORS.false c.if-world-gt8.false c.in-Err.fault c.in-Err.ensures.fault)

pub returns-then-world-ne0-clause-refused : goal.returns-then-world-ne0-clause-refused
returns-then-world-ne0-clause-refused c =
    let shaped : IsShape (shape_in c.args.world.now) = subst IsShape c.in-Ok.ensures.made c.in-Ok.ensures.shape in
    let words = ap word_count c.in-Ok.ensures.made in
    bad_base c.if-world-gt-MOST_VECTORS.false c.if-world-gt8.false (sizes c.args.world.now (search rules) shaped) (λ base. elim c.then-world-ne0.branch [
      | then-world-ne0-via-then-world-ne0 w ↦ absurd (omega (arith, base.0, w.if-world-ne0.true))
      | then-world-ne0-via-else-world-ne0+then-world-bytes w ↦
          absurd (omega (arith, base.1, w.if-world-bytes.true, c.from-bytes.ensures, c.words.ensures.value, words, shaped.table_page))
    ])

pub returns-in_default-clause-refused : goal.returns-in_default-clause-refused
returns-in_default-clause-refused c =
    let shaped : IsShape (shape_in c.args.world.now) = subst IsShape c.in-Ok.ensures.made c.in-Ok.ensures.shape in
    no_memory (
      c.if-world-gt-MOST_VECTORS.false,
      c.if-world-gt8.false,
      sizes c.args.world.now (search rules) shaped,
      (
        omega (arith, c.if-world-ne0.false),
        omega (arith, c.if-world-bytes.false, c.from-bytes.ensures, c.words.ensures.value, ap word_count c.in-Ok.ensures.made, shaped.table_page),
      ),
    )

pub returns-clause-refused : goal.returns-clause-refused
returns-clause-refused c =
    let shaped : IsShape (shape_in c.args.world.now) = subst IsShape c.in-Ok.ensures.made c.in-Ok.ensures.shape in
    no_memory (
      c.if-world-gt-MOST_VECTORS.false,
      c.if-world-gt8.false,
      sizes c.args.world.now (search rules) shaped,
      (
        omega (arith, c.if-world-ne0.false),
        omega (arith, c.if-world-bytes.false, c.from-bytes.ensures, c.words.ensures.value, ap word_count c.in-Ok.ensures.made, shaped.table_page),
      ),
    )
