-- A step of the sender.
use Rattle.std.proofs.Common.{◌≡◌, ℕ, Bool, true, false, Some, None, List, refl, subst, ap, sym, ◌∙◌, All, arith}
use Rattle.std.proofs.lemmas.Grind.{common_steps}
use Rattle.split_ring.specs.declared.ranges.Refused.{Refused}
use Rattle.split_ring.specs.declared.steps.Note.{Note}
use Rattle.call_grammar.specs.Steps.{marks_of}
use Rattle.call_grammar.specs.Ends.{End, end_after}
use Rattle.call_grammar.specs.Calls.{EndConfig}
use Rattle.call_grammar.specs.Places as places
use Rattle.tx_engine.specs.Sender.{Sender, IsSender}
use Rattle.tx_engine.specs.Refinement as tx
use Rattle.rx_engine.specs.Receiver.{Receiver}
use Rattle.rx_engine.specs.Refinement as rx
use Rattle.link_endpoint.specs.declared.place.Place.TheVariants.{Closed, Refusing, Offering}
use Rattle.link_endpoint.specs.Engine.{Engine, is_down, is_down_at, refused_after, IsNoteAt, offered, delivered}
use Rattle.link_endpoint.specs.Refinement.{RefinesAt, IsAt, Takes, frame_of_mark}
use Rattle.link_endpoint.proofs.EndByPlace.{at_place}
use Rattle.link_endpoint.proofs.Notes.{IsOfOffer, offer_notes, offer_marks, refused_again, refused_kept}
use Rattle.link_endpoint.proofs.OfferAndPollSteps.{in_offer, offer_step, offer_at, sent_few, refused_few, goes_on_open, closed_is}
use Rattle.link_endpoint.proofs.HandshakeAfterStep.{IsNoted, refused_place, refused_mark, refused_standing, kept_place, kept_standing}

-- A receiver without an open poll refines the end after a step that leaves the session open.
receiver_stays : (receiver : Receiver) (config : EndConfig) (end other : End) → rx.RefinesAt receiver config end places.Closed →
    other.delivered ≡ end.delivered → other.returned ≡ end.returned → other.found_none ≡ end.found_none → other.handshake.phase ≡ end.handshake.phase → rx.RefinesAt receiver config other places.Closed
receiver_stays receiver config end other refines delivered returned found_none phase = grind (arith, common_steps)

-- The facts of the sender's step for an end that the endpoint refines.
record Sent (old : Engine) (value : ℕ) (notes : List Note) (next : Sender) (config : EndConfig) (end : End) (place : places.Place) : Type 0 where
  offers : in_offer place ≡ true
  noted : IsNoted (offered old) notes config end place value
  frames : All (IsNoteAt Offering) notes
  sender : tx.RefinesAt next config (end_after end (places.step_at config place value)) (places.next_place config place value)
  receiver : rx.RefinesAt old.receiver config (end_after end (places.step_at config place value)) places.Closed

sent : (old : Engine) (value : ℕ) (notes : List Note) (next : Sender) (config : EndConfig) (end : End) (place : places.Place) →
    old.place ≡ Offering → tx.TakesStep old.sender value notes next → RefinesAt old config end place → Sent old value notes next config end place
sent old value notes next config end place offers took refines =
    let a : IsAt Offering old config end place = at_place Offering old config end place offers refines in
    let offers_at = offer_at old.sender config end place a.1 a.0 in
    let step = offer_step config end place value offers_at in
    let marks : marks_of (offered old) notes ≡ places.marks_at config place value = took.marks config end place a.1 in
    record {
      offers = offers_at;
      noted = record { step = step.step; marks = marks };
      frames = offer_notes (offered old) notes (subst (All IsOfOffer) (sym marks) step.marks);
      sender = took.refines config end place a.1;
      receiver = receiver_stays old.receiver config end _ a.2 step.delivered step.returned step.found_none step.step.phase;
    }

-- A step of an offer delivers no frame.
offer_frame : (place : places.Place) (value : ℕ) (frame : List ℕ) → in_offer place ≡ true → rx.frame_after place value frame ≡ frame
offer_frame (places.ReadingFrameWord number more entry address bytes read words) value frame offers = absurd (cc)
offer_frame _ value frame offers = refl

-- The step of an endpoint that refines an end.
takes : (old new : Engine) (value : ℕ) (notes : List Note) (next : Sender) (config : EndConfig) (end : End) (place : places.Place) →
    old.place ≡ Offering → tx.TakesStep old.sender value notes next → RefinesAt old config end place →
    ((w : EndConfig) (e : End) (p : places.Place) → RefinesAt old w e p → Sent old value notes next w e p → RefinesAt new w (end_after e (places.step_at w p value)) (places.next_place w p value)) →
    new.config ≡ old.config → new.refused ≡ refused_after notes old.refused → new.sender ≡ next → new.receiver ≡ old.receiver →
    is_down new ≡ false → Takes old value notes new
takes old new value notes next config end place offers took refines goes same refused sender receiver down =
    let frames = (sent old value notes next config end place offers took refines).frames in
    let hand = ap (λ p. frame_of_mark p (offered old) (delivered new)) offers in
    record {
      marks = λ w e p at. ap (λ f. marks_of f notes) hand ∙ (sent old value notes next w e p offers took at).noted.marks;
      marked = λ w e p at. offer_marks (offered old) (delivered new) notes frames ∙ (sent old value notes next w e p offers took at).noted.marks;
      frames = subst (λ p. All (IsNoteAt p) notes) (sym offers) frames;
      refines = λ w e p at. goes w e p at (sent old value notes next w e p offers took at);
      delivered = λ w e p at. ap (λ r. r.frame) receiver ∙ sym (offer_frame p value (delivered old) (sent old value notes next w e p offers took at).offers);
      config = same;
      refused = refused;
      offered = ap (λ s. s.frame) sender ∙ ap (λ s. s.frame) took.kept;
      down = down;
    }

-- The step refused a value.
pub takes_refused : (old : Engine) (value : ℕ) (notes : List Note) (next : Sender) (refused : Refused) (config : EndConfig) (end : End) (place : places.Place) →
    old.place ≡ Offering → tx.TakesStep old.sender value notes next → RefinesAt old config end place → refused_after notes None ≡ Some refused →
    Takes old value notes (record old { refused = Some refused; place = Refusing; sender = next })
takes_refused old value notes next refused config end place offers took refines found =
    takes old _ value notes next config end place offers took refines
    (λ w e p at s. record {
      made = at.made;
      standing = refused_standing old (offered old) notes refused w e p value at s.noted found;
      few = refused_few w e p value s.offers at.few (refused_place (offered old) notes refused w e p value s.noted found);
      at = (refused_place (offered old) notes refused w e p value s.noted found, refused_mark (offered old) notes refused w e p value s.noted found);
    })
    refl (sym (refused_again notes old.refused refused found)) refl refl refl

-- The offer is over, because the new sender isn't busy.
pub takes_end : (old : Engine) (value : ℕ) (notes : List Note) (next : Sender) (busy : Bool) (config : EndConfig) (end : End) (place : places.Place) →
    old.place ≡ Offering → tx.TakesStep old.sender value notes next → RefinesAt old config end place → refused_after notes None ≡ None → IsSender next →
    ((w : EndConfig) (e : End) (p : places.Place) → tx.RefinesAt next w e p → busy ≡ places.is_open p) → busy ≡ false →
    Takes old value notes (record old { place = Closed; sender = next })
takes_end old value notes next busy config end place offers took refines none sender busy_is over =
    takes old _ value notes next config end place offers took refines
    (λ w e p at s.
    let closed = closed_is (places.next_place w p value) (sym (busy_is w _ _ s.sender) ∙ over) in
    record {
      made = at.made;
      standing = kept_standing old (offered old) notes w e p value at s.noted none;
      few = sent_few w e p value next s.offers at.few sender s.sender;
      at = (closed, record { sender = subst (tx.RefinesAt next w (end_after e (places.step_at w p value))) closed s.sender; receiver = s.receiver });
    })
    refl (sym (refused_kept notes old.refused none)) refl refl refl

-- The offer is still open, because the new sender is busy.
pub takes_on : (old : Engine) (value : ℕ) (notes : List Note) (next : Sender) (busy : Bool) (config : EndConfig) (end : End) (place : places.Place) →
    old.place ≡ Offering → tx.TakesStep old.sender value notes next → RefinesAt old config end place → refused_after notes None ≡ None → IsSender next →
    ((w : EndConfig) (e : End) (p : places.Place) → tx.RefinesAt next w e p → busy ≡ places.is_open p) → busy ≡ true →
    Takes old value notes (record old { sender = next })
takes_on old value notes next busy config end place offers took refines none sender busy_is on =
    takes old _ value notes next config end place offers took refines
    (λ w e p at s.
    let goes = goes_on_open (places.next_place w p value) (sym (busy_is w _ _ s.sender) ∙ on) (kept_place (offered old) notes w e p value s.noted none) in
    record {
      made = at.made;
      standing = kept_standing old (offered old) notes w e p value at s.noted none;
      few = sent_few w e p value next s.offers at.few sender s.sender;
      at = subst (λ q. IsAt q (record old { sender = next }) w (end_after e (places.step_at w p value)) (places.next_place w p value)) (sym offers) (goes, s.sender, s.receiver);
    })
    refl (sym (refused_kept notes old.refused none)) refl refl (ap is_down_at offers)
