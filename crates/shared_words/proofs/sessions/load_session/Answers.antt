use Rattle.std.proofs.Common.{rules, ◌≡◌, ◌<◌, length, ap, arith, subst, sym, ◌∙◌}
use Rattle.shared_words.specs.PassView.{PassView}
use Rattle.shared_words.specs.Actions.{accesses_in}
use Rattle.shared_words.specs.SharedMemory.{MayLoadSession}
use Rattle.shared_words.specs.Rules.{front}
use Rattle.shared_words.proofs.LinkOfSetup.{honest_below}
use Rattle.shared_words.proofs.ActionsKeepRule.{carry_allowed}
use Rattle.shared_words.proofs.sessions.load_session.Goals as goal

pub load-requires : goal.load-requires
load-requires c = let key = c.args.words.now.shared.key in let e = ap (λ h. length h.lists) c.pass.view_is in let of = c.requires.of in let at = c.session_word-word.ensures in let words = of.0.1 in
    let mine : c.pass.inside.seat.me.0.from ≡ c.args.me = ap (λ h. h.from) c.pass.view_is ∙ of.1 in let two : c.args.me < 2 = honest_below key c.args.me c.requires.honest in
    let may : MayLoadSession key c.args.me (accesses_in (front c.args.pass.now.lists)) = record { honest = c.requires.honest; place = c.requires.place } in (
      search rules,
      omega arith,
      carry_allowed key _ _ _ _ _ _ (omega arith) (omega arith)
          (subst (λ (h : PassView). MayLoadSession key h.from (accesses_in (front h.lists))) (sym c.pass.view_is) (subst (λ p. MayLoadSession key p (accesses_in (front c.args.pass.now.lists))) (sym of.1) may)),
    )
