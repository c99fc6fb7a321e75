-- One peer is triggered: the target of a doorbell.
use Rattle.std.proofs.Common.{◌≡◌, ◌≢◌, ℕ, suc, ◌<◌, ◌≤◌, List, [], ◌++◌, length, get_or, set, Some, None, refl, sym, ◌∙◌, ap, subst, inl, inr, arith, eq-eqb}
use Rattle.std.specs.Prelude.{if◌then◌else◌, Option, slice_get}
use Rattle.std.proofs.lemmas.Bool.{ne_eqb}
use Rattle.std.proofs.lemmas.Option.{slice_get-get_or}
use Rattle.pci_space.specs.declared.wiring.Wiring.{Wiring}
use Rattle.doorbell_irq.specs.Peer.{Registers}
use Rattle.doorbell_irq.specs.declared.trigger.Trigger.TheVariants.{At}
use Rattle.doorbell_irq.specs.DeviceRules.{deliveries_below, delivery_to}
use Rattle.doorbell_irq.specs.Registers.{Takes, delivery_at}
use Rattle.doorbell_irq.specs.Triggers.{vector_at, delivery_if, delivery_among, TakesBelow}
use Rattle.doorbell_irq.proofs.Lists.{slice_get-same, slice_get-set_same, slice_get-set_other, nat_cases}
use Rattle.doorbell_irq.proofs.NoDelivery.{quiet, no_more, stays}

module _ (wiring : Wiring) (target vector : ℕ) (old : List Registers) where
  -- The target's vector, and no other peer's.
  at_target : vector_at (At target vector) target ≡ Some vector
  at_target = ap (λ b. if b then Some vector else None) (eq-eqb target target refl)

  elsewhere : (peer : ℕ) → peer ≢ target → vector_at (At target vector) peer ≡ None
  elsewhere peer other = ap (λ b. if b then Some vector else None) (ne_eqb target peer (λ same. other (sym same)))

  silent : (peer : ℕ) → peer ≢ target → delivery_among wiring (At target vector) old peer ≡ None
  silent peer other = quiet wiring (At target vector) old peer (elsewhere peer other)

  -- A target that is no peer of the world.
  pub stranger_takes : (peers : ℕ) → peers ≤ target → TakesBelow peers wiring (At target vector) old old
  stranger_takes peers past peer before after less = stays wiring (At target vector) old old peer before after (elsewhere peer (λ same. omega arith)) refl

  pub stranger_came : (peers : ℕ) → peers ≤ target → [] ≡ deliveries_below (delivery_among wiring (At target vector) old) peers
  stranger_came peers past =
      no_more (delivery_among wiring (At target vector) old) 0 peers (omega arith) (λ p from to. silent p (λ same. omega arith))

  module _ (d : Registers) (inside : target < length old) where
    -- What the peers take.
    pub target_takes : (peers : ℕ) (taken : Registers) → Takes wiring (Some vector) (get_or old target d) taken →
        TakesBelow peers wiring (At target vector) old (set old target taken)
    target_takes peers taken takes peer before after less was is = elim (nat_cases peer target) [
      | inl same ↦ (
          let first : get_or old target d ≡ before = slice_get-same old target (get_or old target d) before (slice_get-get_or old target d inside) (ap (slice_get old) (sym same) ∙ was) in
          let last : taken ≡ after = slice_get-same (set old target taken) target taken after (slice_get-set_same old target taken inside)
          (ap (slice_get (set old target taken)) (sym same) ∙ is) in
          subst (λ v. Takes wiring v before after) (sym (ap (vector_at (At target vector)) same ∙ at_target))
          (subst (λ b. Takes wiring (Some vector) b after) first (subst (λ a. Takes wiring (Some vector) (get_or old target d) a) last takes))
          )
      | inr other ↦ stays wiring (At target vector) old (set old target taken) peer before after (elsewhere peer other)
          (slice_get-set_other old target peer taken other) was is
    ]

    -- What is delivered.
    pub target_came : (peers : ℕ) (result : Option ℕ) → target < peers → result ≡ delivery_at wiring (get_or old target d) (Some vector) →
        delivery_to target result ≡ deliveries_below (delivery_among wiring (At target vector) old) peers
    target_came peers result less gives =
        let at = delivery_among wiring (At target vector) old in
        let here : result ≡ at target = gives ∙ ap (delivery_at wiring (get_or old target d)) (sym at_target)
        ∙ sym (ap (delivery_if wiring (vector_at (At target vector) target)) (slice_get-get_or old target d inside)) in
        let before : [] ≡ deliveries_below at target = no_more at 0 target (omega arith) (λ p from to. silent p (λ same. omega arith)) in
        ap (delivery_to target) here ∙ ap (λ ds. ds ++ delivery_to target (at target)) before
        ∙ no_more at (suc target) peers (omega arith) (λ p from to. silent p (λ same. omega arith))
