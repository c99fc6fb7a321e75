use Rattle.std.proofs.Common.{rules, length, ap, arith}
use Rattle.shared_words.proofs.ActionsKeepRule.{look_allowed}
use Rattle.shared_words.proofs.interrupts.look.Goals as goal

pub swap-requires : goal.swap-requires
swap-requires c = let key = c.args.words.now.shared.key in let size = ap (λ h. length h.lists) c.pass.view_is in let from = ap (λ h. h.from) c.pass.view_is in let own = c.requires.own in
    let at = c.interrupt_word-word.ensures in let words = c.requires.of.0.1 in (
      search rules,
      omega arith,
      look_allowed key _ _ _ _ _ _ (omega arith) (omega arith),
    )
