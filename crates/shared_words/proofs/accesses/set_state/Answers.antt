use Rattle.std.proofs.Common.{rules, ◌≡◌, inr, true, ◌<◌, length, ap, arith, subst, sym, ◌∙◌}
use Rattle.section_map.specs.Geometry.{word_count}
use Rattle.split_ring.specs.declared.steps.Access.TheVariants as access
use Rattle.link_invariant.specs.Steps.{Stored}
use Rattle.shared_words.specs.PassView.{PassView}
use Rattle.shared_words.specs.RunSetups.{honest_of}
use Rattle.shared_words.specs.DerivedStates.{call_access, derived_state, IsNext}
use Rattle.shared_words.specs.Actions.{accesses_in}
use Rattle.shared_words.specs.Rules.{front}
use Rattle.shared_words.proofs.LinkOfSetup.{within}
use Rattle.shared_words.proofs.ActionsKeepRule.{store_allowed}
use Rattle.shared_words.proofs.accesses.set_state.Goals as goal

pub store-requires : goal.store-requires
store-requires g c = let key = c.args.words.now.shared.key in let e = ap (λ h. length h.lists) c.pass.view_is in let of = c.requires.of in
    let mine : c.args.peer ≡ c.pass.inside.seat.me.0.from = sym (ap (λ h. h.from) c.pass.view_is ∙ of.1) in
    let b : c.args.peer < word_count key.geometry = within key c.args.pass.now.from c.args.peer of.0.3 (omega arith) (inr (sym of.1)) in (
      search rules,
      omega arith,
      store_allowed key (call_access g.B.Begins.call (access.State c.args.state) 0) _ _ _ _ _ _ _ (omega arith) (inr mine) tt (search rules) (λ m. tt) (λ m a s. subst (λ p. Stored m a p c.args.state) mine s)
          (subst (λ (h : PassView). honest_of key h.from ≡ true → IsNext key h.from (derived_state key h.from (accesses_in (front h.lists))) g.B.Begins.call (access.State c.args.state)) (sym c.pass.view_is) c.requires.next),
    )
