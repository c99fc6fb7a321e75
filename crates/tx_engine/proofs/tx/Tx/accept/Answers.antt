use Rattle.std.proofs.Common.{◌≡◌, ℕ, ◌+◌, ◌%◌, Bool, true, false, [], ◌∷◌, refl, ap, sym, ◌∙◌, subst}
use Rattle.split_ring.specs.declared.steps.Note.TheVariants.{Accept}
use Rattle.tx_engine.specs.declared.place.Place.{Place}
use Rattle.tx_engine.specs.Continuations.{place_after_index}
use Rattle.tx_engine.specs.Sender.{Sender, IsSender, is_open}
use Rattle.tx_engine.specs.Representation.{sender_of}
use Rattle.tx_engine.specs.Refinement.{StaysOpen}
use Rattle.tx_engine.proofs.InvariantByPlace.{placed}
use Rattle.tx_engine.proofs.AfterWrites.{index_written}
use Rattle.tx_engine.proofs.tx.Tx.accept.Goals as goal

opened : (events : Bool) → is_open (place_after_index events) ≡ true
opened true = refl
opened false = refl

accepted : (tx : Sender) (count : ℕ) (events : Bool) → IsSender tx → IsSender (record tx { accepted = count; place = place_after_index events })
accepted tx count true is = placed tx count _ (place_after_index true) is refl tt
accepted tx count false is = placed tx count _ (place_after_index false) is refl tt

pub returns : goal.returns
returns c = λ value.
    let t = c.self.inside in
    let here = ap (λ (s : Sender). s.place) c.self.view_is ∙ c.requires in
    let after : (a : ℕ) → Place → Sender = λ a p. record (sender_of t) { accepted = a; place = p } in
    let place_is = c.place_after_index-self-inside.ensures in
    subst (λ s. StaysOpen s value (Accept ∷ []) (after c.plus-self-inside.result c.place_after_index-self-inside.result)) c.self.view_is (record {
      takes = index_written (sender_of t) (after c.plus-self-inside.result c.place_after_index-self-inside.result) value c.has_events.result _ c.self.invariant.sender here c.has_events.ensures
          (ap (λ a. after a c.place_after_index-self-inside.result) c.plus-self-inside.ensures ∙ ap (after ((t.accepted + 1) % 65536)) place_is) refl;
      opened = ap is_open place_is ∙ opened c.has_events.result;
      sender = subst (λ p. IsSender (after c.plus-self-inside.result p)) (sym place_is) (accepted (sender_of t) c.plus-self-inside.result c.has_events.result c.self.invariant.sender);
    })
