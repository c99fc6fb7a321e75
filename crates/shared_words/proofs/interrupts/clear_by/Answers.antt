use Rattle.std.proofs.Common.{rules, length, ap, arith, refl}
use Rattle.shared_words.proofs.ActionsKeepRule.{clear_allowed}
use Rattle.shared_words.proofs.interrupts.clear_by.Goals as goal

pub fetch_and-requires : goal.fetch_and-requires
fetch_and-requires g c = let key = c.args.words.now.shared.key in let size = ap (λ h. length h.lists) c.pass.view_is in let lt = c.requires.target in let at = c.interrupt_word-word.ensures in let words = c.requires.of.0.1 in (
  search rules,
  omega arith,
  clear_allowed key g.M.Play.then c.args.target _ _ _ _ _ _ _ c.requires.reports (omega arith) (omega arith) (omega arith) refl,
)
