use Rattle.std.proofs.Common.{rules, length, ap, arith}
use Rattle.shared_words.proofs.CutRanges.{join_allowed}
use Rattle.shared_words.proofs.words.join_pass.Goals as goal

pub join_seat-requires : goal.join_seat-requires
join_seat-requires c = let from = ap (λ h. h.from) c.pass.view_is in let size = ap (λ h. length h.lists) c.pass.view_is in let start = ap (λ h. h.from) c.other.view_is in let page = c.requires.own.3.shape.table_page in
    (search rules, search rules, search rules, omega arith, join_allowed _ _ _ _ _ (omega arith))
