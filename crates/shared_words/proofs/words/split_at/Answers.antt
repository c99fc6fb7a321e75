use Rattle.std.proofs.Common.{rules, length, ap, arith, subst, sym}
use Rattle.atomic_table.specs.Table.{Splits}
use Rattle.shared_words.specs.declared.view.View.{View}
use Rattle.shared_words.specs.Rules.{TableInvariant, lower, upper}
use Rattle.shared_words.proofs.CutRanges.{split_allowed}
use Rattle.shared_words.proofs.words.split_at.Goals as goal

pub split_seat-requires : goal.split_seat-requires
split_seat-requires g c = let key = c.args.words.now.shared.key in let v = c.pass.inside.seat.me.0 in let id = c.pass.inside.seat.id in let p = c.args.from in let page = c.requires.of.3.shape.table_page in
    let from = ap (λ h. h.from) c.pass.view_is in let size = ap (λ h. length h.lists) c.pass.view_is in
    let there : Splits (TableInvariant key) id v (lower p v) (upper p v) = split_allowed key id v.from p v.lists (omega arith) (omega arith) in
    (search rules, omega arith, subst (λ (f : View → View). Splits (TableInvariant key) id v (f v) (g.M.Split.right v)) (sym c.requires.cut.0) (subst (λ (f : View → View). Splits (TableInvariant key) id v (lower p v) (f v)) (sym c.requires.cut.1) there))
