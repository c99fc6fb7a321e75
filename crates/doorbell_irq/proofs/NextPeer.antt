-- One more peer is triggered.
use Rattle.std.proofs.Common.{◌≡◌, ◌≢◌, ℕ, ◌+◌, ◌<◌, ◌≤◌, List, ◌++◌, length, get_or, set, Some, sym, ◌∙◌, ap, ap₂, subst, inl, inr, arith, add-one}
use Rattle.std.specs.Prelude.{Option, slice_get}
use Rattle.std.proofs.lemmas.Option.{slice_get-get_or}
use Rattle.pci_space.specs.declared.wiring.Wiring.{Wiring}
use Rattle.doorbell_irq.specs.declared.effect.Delivery.{Delivery}
use Rattle.doorbell_irq.specs.Peer.{Registers}
use Rattle.doorbell_irq.specs.declared.trigger.Trigger.{Trigger}
use Rattle.doorbell_irq.specs.DeviceRules.{deliveries_below, delivery_to}
use Rattle.doorbell_irq.specs.Registers.{Takes, delivery_at}
use Rattle.doorbell_irq.specs.Triggers.{vector_at, delivery_if, delivery_among}
use Rattle.doorbell_irq.proofs.Lists.{slice_get-same, slice_get-set_same, slice_get-set_other, nat_cases}

module _ (wiring : Wiring) (trigger : Trigger) (initial now : List Registers) (peer : ℕ) (d : Registers) (inside : peer < length now)
    (left : (other : ℕ) → peer ≤ other → slice_get now other ≡ slice_get initial other) where
  -- The peer before its turn.
  before_is : slice_get initial peer ≡ Some (get_or now peer d)
  before_is = sym (left peer (omega arith)) ∙ slice_get-get_or now peer d inside

  -- The deliveries up to this peer.
  pub taken_more : (vector : Option ℕ) (taken : Registers) → vector ≡ vector_at trigger peer → Takes wiring vector (get_or now peer d) taken →
      ((other : ℕ) (before after : Registers) → other < peer → slice_get initial other ≡ Some before → slice_get now other ≡ Some after →
      Takes wiring (vector_at trigger other) before after) →
      (other : ℕ) (before after : Registers) → other < peer + 1 → slice_get initial other ≡ Some before → slice_get (set now peer taken) other ≡ Some after →
      Takes wiring (vector_at trigger other) before after
  taken_more vector taken is takes done other before after less was at = elim (nat_cases other peer) [
    | inl same ↦ (
        let old : get_or now peer d ≡ before = slice_get-same initial peer (get_or now peer d) before before_is (ap (slice_get initial) (sym same) ∙ was) in
        let new : taken ≡ after = slice_get-same (set now peer taken) peer taken after (slice_get-set_same now peer taken inside)
        (ap (slice_get (set now peer taken)) (sym same) ∙ at) in
        subst (λ p. Takes wiring (vector_at trigger p) before after) (sym same)
        (subst (λ b. Takes wiring (vector_at trigger peer) b after) old
        (subst (λ a. Takes wiring (vector_at trigger peer) (get_or now peer d) a) new
        (subst (λ v. Takes wiring v (get_or now peer d) taken) is takes)))
        )
    | inr apart ↦ done other before after (omega arith) was (sym (slice_get-set_other now peer other taken apart) ∙ at)
  ]

  -- The peers that wait for their turn.
  pub left_more : (taken : Registers) (other : ℕ) → peer + 1 ≤ other → slice_get (set now peer taken) other ≡ slice_get initial other
  left_more taken other later =
      let apart : other ≢ peer = λ same. omega arith in
      slice_get-set_other now peer other taken apart ∙ left other (omega arith)

  -- The deliveries up to this peer.
  pub came_more : (vector result : Option ℕ) (items new : List Delivery) → vector ≡ vector_at trigger peer → result ≡ delivery_at wiring (get_or now peer d) vector →
      items ≡ deliveries_below (delivery_among wiring trigger initial) peer → new ≡ items ++ delivery_to peer result →
      new ≡ deliveries_below (delivery_among wiring trigger initial) (peer + 1)
  came_more vector result items new is gives came put =
      let this : result ≡ delivery_among wiring trigger initial peer =
      gives ∙ ap (delivery_at wiring (get_or now peer d)) is ∙ sym (ap (delivery_if wiring (vector_at trigger peer)) before_is) in
      put ∙ ap₂ (λ (ds : List Delivery) r. ds ++ delivery_to peer r) came this ∙ sym (ap (deliveries_below (delivery_among wiring trigger initial)) (add-one peer))
