use Rattle.std.proofs.Common.{rules, length, ap, arith, subst, sym}
use Rattle.std.proofs.lemmas.Nat.{one_shl}
use Rattle.shared_words.specs.PassView.{PassView}
use Rattle.shared_words.specs.Rules.{front}
use Rattle.shared_words.specs.Interrupts.{IsOneShot, MayRing}
use Rattle.shared_words.proofs.ActionsKeepRule.{ring_allowed}
use Rattle.shared_words.proofs.interrupts.ring_by.Goals as goal

pub fetch_or-requires : goal.fetch_or-requires
fetch_or-requires g c = let key = c.args.words.now.shared.key in let size = ap (λ h. length h.lists) c.pass.view_is in let lt = c.requires.target.0 in let at = c.interrupt_word-word.ensures in let words = c.requires.of.0.1 in (
  search rules,
  omega arith,
  ring_allowed key g.M.Play.then c.args.target c.args.bit _ _ _ _ _ _ _ c.requires.reports c.requires.target.1 (one_shl c.args.bit 64 c.requires.target.1) (omega arith) (omega arith) (omega arith)
      (subst (λ (h : PassView). IsOneShot key c.args.target → MayRing c.args.target (front h.lists)) (sym c.pass.view_is) c.requires.may),
)
