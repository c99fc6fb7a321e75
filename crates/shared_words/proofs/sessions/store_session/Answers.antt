use Rattle.std.proofs.Common.{rules, ◌≡◌, ◌<◌, length, ap, arith, subst, sym, ◌∙◌}
use Rattle.shared_words.specs.PassView.{PassView}
use Rattle.shared_words.specs.Actions.{accesses_in}
use Rattle.shared_words.specs.SharedMemory.{MayStoreSession}
use Rattle.shared_words.specs.Rules.{front}
use Rattle.shared_words.proofs.LinkOfSetup.{honest_below}
use Rattle.shared_words.proofs.ActionsKeepRule.{number_allowed}
use Rattle.shared_words.proofs.sessions.store_session.Goals as goal

pub store-requires : goal.store-requires
store-requires c = let key = c.args.words.now.shared.key in let e = ap (λ h. length h.lists) c.pass.view_is in let of = c.requires.of in let at = c.session_word-word.ensures in let words = of.0.1 in
    let mine : c.pass.inside.seat.me.0.from ≡ c.args.me = ap (λ h. h.from) c.pass.view_is ∙ of.1 in let two : c.args.me < 2 = honest_below key c.args.me c.requires.honest in
    let same : c.from.result ≡ c.args.number = search rules in let may : MayStoreSession key c.args.me (accesses_in (front c.args.pass.now.lists)) c.from.result = record { honest = c.requires.honest; place = c.requires.place; next = same ∙ c.requires.number } in (
      search rules,
      omega arith,
      number_allowed key _ _ _ _ _ _ _ (omega arith) (omega arith) (omega arith) (search rules)
          (subst (λ (h : PassView). MayStoreSession key h.from (accesses_in (front h.lists)) c.from.result) (sym c.pass.view_is) (subst (λ p. MayStoreSession key p (accesses_in (front c.args.pass.now.lists)) c.from.result) (sym of.1) may)),
    )
