use Rattle.std.proofs.Common.{◌≤◌, ◌++◌, ◌∷◌, [], List, ℕ, lit<, Bool, ap, sym, subst, ◌∙◌, arith, length}
use Rattle.arrayvec.specs.ArrayVec.{ArrayVec}
use Rattle.frame_bridge.specs.Forwarding.{goes_to}
use Rattle.frame_bridge.proofs.PortLists.{ports_fit, ports_more, ports_less}
use Rattle.frame_bridge.proofs.learning.ports_of.Goals as goal
use Rattle.frame_bridge.proofs.learning.ports_of.Goals.{then-goes_to, else-goes_to}

pub push-requires : goal.push-requires
push-requires c =
    let fit : length c.loop-to.ports.items ≤ c.loop-to.to = subst (λ (l : List ℕ). length l ≤ c.loop-to.to) (sym c.loop-to.invariant) (ports_fit (goes_to c.args.known c.args.from) c.loop-to.to) in
    (lit< tt, omega (arith, fit))

pub loop-to-preserved : goal.loop-to-preserved
loop-to-preserved c =
    let p : ℕ → Bool = goes_to c.args.known c.args.from in
    elim c.if-goes_to.branch [
      | then-goes_to w ↦ ap (λ (v : ArrayVec ℕ). v.items) w.ports-is ∙ (w.push.ensures.items ∙ (ap (λ (l : List ℕ). l ++ c.loop-to.to ∷ []) c.loop-to.invariant ∙
          sym (ports_more p c.loop-to.to (sym c.goes_to.ensures ∙ w.if-goes_to.true))))
      | else-goes_to w ↦ ap (λ (v : ArrayVec ℕ). v.items) w.ports-is ∙ (c.loop-to.invariant ∙
          sym (ports_less p c.loop-to.to (sym c.goes_to.ensures ∙ w.if-goes_to.false)))
    ]
