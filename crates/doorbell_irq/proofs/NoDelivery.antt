-- Peers without a delivery.
use Rattle.std.proofs.Common.{◌≡◌, ℕ, zero, suc, ◌<◌, ◌≤◌, List, ◌++◌, Some, None, refl, sym, ◌∙◌, ap, subst, inl, inr, arith}
use Rattle.std.specs.Prelude.{Option, slice_get}
use Rattle.std.proofs.lemmas.Bool.{cases_lt}
use Rattle.std.proofs.lemmas.List.{append-nil}
use Rattle.pci_space.specs.Fields.{Contents}
use Rattle.pci_space.specs.declared.wiring.Wiring.{Wiring}
use Rattle.doorbell_irq.specs.Peer.{Registers}
use Rattle.doorbell_irq.specs.declared.trigger.Trigger.{Trigger}
use Rattle.doorbell_irq.specs.DeviceRules.{deliveries_below, delivery_to}
use Rattle.doorbell_irq.specs.Registers.{IsWritten, Takes}
use Rattle.doorbell_irq.specs.Triggers.{vector_at, delivery_if, delivery_among}
use Rattle.doorbell_irq.proofs.Lists.{slice_get-same}

unwritten : (space : Contents) → IsWritten None space space
unwritten space = record { rows = refl; bytes = λ k. refl }

-- Registers that are left as they are.
pub untouched : (wiring : Wiring) (r : Registers) → Takes wiring None r r
untouched wiring r = record {
  connected = refl;
  in_config = unwritten r.config;
  in_page = unwritten r.page;
  count = refl;
  in_entries = λ n before after was is. subst (λ (a : Contents). IsWritten None before a) (slice_get-same r.entries n before after was is) (unwritten before);
}

nobody : (wiring : Wiring) (o : Option Registers) → delivery_if wiring None o ≡ None
nobody wiring None = refl
nobody wiring (Some r) = refl

-- Without a vector nothing is delivered.
pub quiet : (wiring : Wiring) (trigger : Trigger) (registers : List Registers) (peer : ℕ) → vector_at trigger peer ≡ None → delivery_among wiring trigger registers peer ≡ None
quiet wiring trigger registers peer none = ap (λ (v : Option ℕ). delivery_if wiring v (slice_get registers peer)) none ∙ nobody wiring (slice_get registers peer)

-- The same deliveries up to a later peer, if nothing is delivered between.
pub no_more : (at : ℕ → Option ℕ) (from to : ℕ) → from ≤ to → ((p : ℕ) → from ≤ p → p < to → at p ≡ None) → deliveries_below at from ≡ deliveries_below at to
no_more at from zero le none = let is : from ≡ 0 = omega arith in ap (deliveries_below at) is
no_more at from (suc to) le none =
    elim (cases_lt to from) [
      | inl lt ↦ let is : from ≡ suc to = omega arith in ap (deliveries_below at) is
      | inr ge ↦ (
          let here : delivery_to to (at to) ≡ delivery_to to None = ap (delivery_to to) (none to ge (omega arith)) in
          no_more at from to ge (λ p le' lt. none p le' (omega arith))
          ∙ sym (ap (λ ds. deliveries_below at to ++ ds) here ∙ append-nil (deliveries_below at to))
          )
    ]

-- A peer without a delivery, whose registers stayed.
pub stays : (wiring : Wiring) (trigger : Trigger) (old new : List Registers) (peer : ℕ) (before after : Registers) → vector_at trigger peer ≡ None → slice_get new peer ≡ slice_get old peer
    → slice_get old peer ≡ Some before → slice_get new peer ≡ Some after → Takes wiring (vector_at trigger peer) before after
stays wiring trigger old new peer before after none same was is =
    subst (λ v. Takes wiring v before after) (sym none)
    (subst (λ a. Takes wiring None before a) (slice_get-same old peer before after was (sym same ∙ is)) (untouched wiring before))
