use Rattle.std.proofs.Common.{rules, ◌≡◌, true, length, ap, arith, subst, sym}
use Rattle.split_ring.specs.declared.steps.Access.TheVariants as access
use Rattle.shared_words.specs.PassView.{PassView}
use Rattle.shared_words.specs.RunSetups.{honest_of}
use Rattle.shared_words.specs.DerivedStates.{derived_state, IsNext}
use Rattle.shared_words.specs.Actions.{accesses_in}
use Rattle.shared_words.specs.Rules.{front}
use Rattle.shared_words.proofs.ActionsKeepRule.{load_allowed}
use Rattle.shared_words.proofs.accesses.load.Goals as goal

pub load-requires : goal.load-requires
load-requires g c = let key = c.args.words.now.shared.key in let e = ap (λ h. length h.lists) c.pass.view_is in
    (search rules, search rules, load_allowed key _ _ _ _ _ _ _ (omega arith) c.requires.word (subst (λ (h : PassView). honest_of key h.from ≡ true → IsNext key h.from (derived_state key h.from (accesses_in (front h.lists))) g.B.Begins.call (access.Read c.args.word)) (sym c.pass.view_is) c.requires.next))
