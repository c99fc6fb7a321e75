use Rattle.std.proofs.Common.{rules, ◌≡◌, inl, true, ◌<◌, length, ap, arith, subst, sym}
use Rattle.section_map.specs.Geometry.{word_count}
use Rattle.section_map.specs.MayWrite.{MayWrite}
use Rattle.split_ring.specs.declared.steps.Access.TheVariants as access
use Rattle.shared_words.specs.PassView.{PassView}
use Rattle.shared_words.specs.RunSetups.{honest_of}
use Rattle.shared_words.specs.DerivedStates.{call_access, derived_state, IsNext}
use Rattle.shared_words.specs.Actions.{accesses_in}
use Rattle.shared_words.specs.Rules.{front}
use Rattle.shared_words.proofs.LinkOfSetup.{within}
use Rattle.shared_words.proofs.ActionsKeepRule.{store_allowed}
use Rattle.shared_words.proofs.accesses.store.Goals as goal

pub store-requires : goal.store-requires
store-requires g c = let key = c.args.words.now.shared.key in let e = ap (λ h. length h.lists) c.pass.view_is in let of = c.requires.of in
    let b : c.args.word < word_count key.geometry = within key c.args.pass.now.from c.args.word of.0.3 (omega arith) (inl c.requires.own) in
    let own : MayWrite key.geometry c.pass.inside.seat.me.0.from c.args.word = subst (λ p. MayWrite key.geometry p c.args.word) (sym (ap (λ h. h.from) c.pass.view_is)) c.requires.own in (
      search rules,
      omega arith,
      store_allowed key (call_access g.B.Begins.call (access.Write c.args.word c.args.value) 0) _ _ _ _ _ _ _ (omega arith) (inl own) own (search rules) (λ m. tt) (λ m a s. s)
          (subst (λ (h : PassView). honest_of key h.from ≡ true → IsNext key h.from (derived_state key h.from (accesses_in (front h.lists))) g.B.Begins.call (access.Write c.args.word c.args.value)) (sym c.pass.view_is) c.requires.next),
    )
