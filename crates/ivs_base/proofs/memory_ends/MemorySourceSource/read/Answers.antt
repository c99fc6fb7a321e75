use Rattle.std.proofs.Common.{◌≡◌, ◌≤◌, ◌+◌, ◌∙◌, length, take, drop, ap, sym, arith, rules}
use Rattle.std.proofs.lemmas.Grind.{common_steps}
use Rattle.ivs_base.proofs.Pieces.{gave_first}
use Rattle.ivs_base.proofs.memory_ends.MemorySourceSource.read.Goals as goal

pub returns-clause-gives : goal.returns-clause-gives
returns-clause-gives c =
    let at = c.self.inside.at in
    let bytes = c.self.inside.bytes.items in
    let count = c.min-count.result in
    let new = c.copy_from_slice.new.self in
    let fits : at + count ≤ length bytes = search rules in
    let same : new ≡ take count (drop at bytes) = grind (arith, common_steps, c.copy_from_slice.ensures.after) in
    let size : count ≡ length new = grind (arith, common_steps, c.copy_from_slice.ensures.len) in
    ap (λ now. now.left) (sym c.self.view_is)
    ∙ gave_first bytes c.args.into.now new (drop count c.args.into.now) at count fits same size
