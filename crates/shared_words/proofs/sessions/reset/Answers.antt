use Rattle.std.proofs.Common.{rules, ◌≡◌, inr, ◌<◌, length, ap, arith, sym, ◌∙◌}
use Rattle.section_map.specs.Geometry.{word_count}
use Rattle.shared_words.proofs.LinkOfSetup.{within}
use Rattle.shared_words.proofs.ActionsKeepRule.{reset_allowed}
use Rattle.shared_words.proofs.sessions.reset.Goals as goal

pub store-requires : goal.store-requires
store-requires c = let key = c.args.words.now.shared.key in let e = ap (λ h. length h.lists) c.pass.view_is in let of = c.requires.of in
    let mine : c.args.me ≡ c.pass.inside.seat.me.0.from = sym (ap (λ h. h.from) c.pass.view_is ∙ of.1) in
    let b : c.args.me < word_count key.geometry = within key c.args.pass.now.from c.args.me of.0.3 (omega arith) (inr (sym of.1)) in
    (search rules, omega arith, reset_allowed key _ _ _ _ _ _ (omega arith) mine)
