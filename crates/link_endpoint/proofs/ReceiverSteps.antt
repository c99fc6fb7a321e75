-- A step of the receiver.
use Rattle.std.proofs.Common.{◌≡◌, ℕ, ◌+◌, ◌%◌, ◌<◌, Bool, true, false, Some, None, List, length, refl, subst, ap, sym, ◌∙◌, All, arith}
use Rattle.std.proofs.lemmas.Grind.{common_steps}
use Rattle.split_ring.specs.Layout.{size_of, word_offset, AvailEntry}
use Rattle.split_ring.specs.declared.ranges.Refused.{Refused}
use Rattle.split_ring.specs.declared.steps.Note.{Note}
use Rattle.call_grammar.specs.Steps.{marks_of}
use Rattle.call_grammar.specs.Ends.{End, end_after}
use Rattle.call_grammar.specs.Calls.{EndConfig}
use Rattle.call_grammar.specs.Places as places
use Rattle.call_grammar.specs.StepBounds.{HasFewInFlight}
use Rattle.call_grammar.specs.Words.{lengths_of}
use Rattle.tx_engine.specs.Sender.{Sender, FlightRefinesSession, allocator_of}
use Rattle.tx_engine.specs.Refinement as tx
use Rattle.tx_engine.specs.declared.place.Place as tx_places
use Rattle.tx_engine.specs.declared.place.Place.TheVariants as tx_place
use Rattle.rx_engine.specs.Receiver.{Receiver}
use Rattle.rx_engine.specs.Refinement as rx
use Rattle.link_endpoint.specs.declared.place.Place.TheVariants.{Closed, Refusing, Polling}
use Rattle.link_endpoint.specs.Engine.{Engine, is_down, is_down_at, refused_after, IsNoteAt, offered, delivered}
use Rattle.link_endpoint.specs.Refinement.{RefinesAt, IsAt, Takes, frame_of_mark}
use Rattle.link_endpoint.proofs.EndByPlace.{at_place}
use Rattle.link_endpoint.proofs.Notes.{IsOfPoll, poll_notes, poll_marks, refused_again, refused_kept}
use Rattle.link_endpoint.proofs.OfferAndPollSteps.{poll_step, poll_at, goes_on_open, closed_is}
use Rattle.link_endpoint.proofs.HandshakeAfterStep.{IsNoted, refused_place, refused_mark, refused_standing, kept_place, kept_standing}

-- A sender without an open offer refines the end after a step that leaves the session open.
sender_stays_at : (p : tx_places.Place) (sender : Sender) (config : EndConfig) (end other : End) → tx.IsAt p sender config end places.Closed →
    other.accepted ≡ end.accepted → other.freed ≡ end.freed →
    ((k : ℕ) → k < size_of config.sizes → other.written (config.own + word_offset config.sizes (AvailEntry k)) ≡ end.written (config.own + word_offset config.sizes (AvailEntry k))) →
    other.handshake.phase ≡ end.handshake.phase → tx.IsAt p sender config other places.Closed
sender_stays_at tx_place.Closed sender config end other at accepted freed entries phase = (
  refl,
  λ session.
      let old = at.1 (ap tx.has_session (sym phase) ∙ session) in
      let count = ap (λ frames. length frames) (sym accepted) in
      record {
        accepted = old.accepted ∙ ap (λ n. n % 65536) count;
        flight = subst (λ f. FlightRefinesSession (allocator_of sender) sender.lengths (lengths_of other.accepted) f (length other.accepted)) (sym freed)
            (subst (λ (frames : List (List ℕ)). FlightRefinesSession (allocator_of sender) sender.lengths (lengths_of frames) end.freed (length frames)) (sym accepted) old.flight);
        copy = λ k below. entries k below ∙ old.copy k below;
      },
)
sender_stays_at _ sender config end other at accepted freed entries phase = absurd (grind (arith, common_steps))

-- The facts of the receiver's step for an end that the endpoint refines.
record Received (old : Engine) (value : ℕ) (notes : List Note) (next : Receiver) (config : EndConfig) (end : End) (place : places.Place) : Type 0 where
  noted : IsNoted next.frame notes config end place value
  few : HasFewInFlight config end → HasFewInFlight config (end_after end (places.step_at config place value))
  frame : next.frame ≡ rx.frame_after place value (delivered old)
  frames : All (IsNoteAt Polling) notes
  sender : tx.RefinesAt old.sender config (end_after end (places.step_at config place value)) places.Closed
  receiver : rx.RefinesAt next config (end_after end (places.step_at config place value)) (places.next_place config place value)

received : (old : Engine) (value : ℕ) (notes : List Note) (next : Receiver) (config : EndConfig) (end : End) (place : places.Place) →
    old.place ≡ Polling → rx.TakesStep old.receiver value notes next → RefinesAt old config end place → Received old value notes next config end place
received old value notes next config end place polls took refines =
    let a : IsAt Polling old config end place = at_place Polling old config end place polls refines in
    let step = poll_step config end place value (poll_at old.receiver config end place a.2 a.0) in
    let taken = took config end place a.2 in
    let marks : marks_of next.frame notes ≡ places.marks_at config place value = taken.marks in
    record {
      noted = record { step = step.step; marks = marks };
      few = λ few. let accepted = ap (λ frames. length frames) step.accepted in let freed = step.freed in omega (arith, few, accepted, freed);
      frame = taken.frame;
      frames = poll_notes next.frame notes (subst (All IsOfPoll) (sym marks) step.marks);
      sender = record { made = a.1.made; at = sender_stays_at old.sender.place old.sender config end _ a.1.at step.accepted step.freed step.entries step.step.phase };
      receiver = taken.refines;
    }

-- The step of an endpoint that refines an end.
takes : (old new : Engine) (value : ℕ) (notes : List Note) (next : Receiver) (config : EndConfig) (end : End) (place : places.Place) →
    old.place ≡ Polling → rx.TakesStep old.receiver value notes next → RefinesAt old config end place →
    ((w : EndConfig) (e : End) (p : places.Place) → RefinesAt old w e p → Received old value notes next w e p → RefinesAt new w (end_after e (places.step_at w p value)) (places.next_place w p value)) →
    new.config ≡ old.config → new.refused ≡ refused_after notes old.refused → new.receiver ≡ next → new.sender ≡ old.sender →
    is_down new ≡ false → Takes old value notes new
takes old new value notes next config end place polls took refines goes same refused receiver sender down =
    let frames = (received old value notes next config end place polls took refines).frames in
    let frame : delivered new ≡ next.frame = ap (λ r. r.frame) receiver in
    let hand = ap (λ p. frame_of_mark p (offered old) (delivered new)) polls ∙ frame in
    record {
      marks = λ w e p at. ap (λ f. marks_of f notes) hand ∙ (received old value notes next w e p polls took at).noted.marks;
      marked = λ w e p at. poll_marks (offered old) (delivered new) notes frames ∙ ap (λ f. marks_of f notes) frame ∙ (received old value notes next w e p polls took at).noted.marks;
      frames = subst (λ p. All (IsNoteAt p) notes) (sym polls) frames;
      refines = λ w e p at. goes w e p at (received old value notes next w e p polls took at);
      delivered = λ w e p at. frame ∙ (received old value notes next w e p polls took at).frame;
      config = same;
      refused = refused;
      offered = ap (λ s. s.frame) sender;
      down = down;
    }

-- The step refused a value.
pub takes_refused : (old : Engine) (value : ℕ) (notes : List Note) (next : Receiver) (refused : Refused) (config : EndConfig) (end : End) (place : places.Place) →
    old.place ≡ Polling → rx.TakesStep old.receiver value notes next → RefinesAt old config end place → refused_after notes None ≡ Some refused →
    Takes old value notes (record old { refused = Some refused; place = Refusing; receiver = next })
takes_refused old value notes next refused config end place polls took refines found =
    takes old _ value notes next config end place polls took refines
    (λ w e p at s. record {
      made = at.made;
      standing = refused_standing old next.frame notes refused w e p value at s.noted found;
      few = s.few at.few;
      at = (refused_place next.frame notes refused w e p value s.noted found, refused_mark next.frame notes refused w e p value s.noted found);
    })
    refl (sym (refused_again notes old.refused refused found)) refl refl refl

-- The poll is over, because the new receiver isn't busy.
pub takes_end : (old : Engine) (value : ℕ) (notes : List Note) (next : Receiver) (busy : Bool) (config : EndConfig) (end : End) (place : places.Place) →
    old.place ≡ Polling → rx.TakesStep old.receiver value notes next → RefinesAt old config end place → refused_after notes None ≡ None →
    ((w : EndConfig) (e : End) (p : places.Place) → rx.RefinesAt next w e p → busy ≡ places.is_open p) → busy ≡ false →
    Takes old value notes (record old { place = Closed; receiver = next })
takes_end old value notes next busy config end place polls took refines none busy_is over =
    takes old _ value notes next config end place polls took refines
    (λ w e p at s.
    let closed = closed_is (places.next_place w p value) (sym (busy_is w _ _ s.receiver) ∙ over) in
    record {
      made = at.made;
      standing = kept_standing old next.frame notes w e p value at s.noted none;
      few = s.few at.few;
      at = (closed, record { sender = s.sender; receiver = subst (rx.RefinesAt next w (end_after e (places.step_at w p value))) closed s.receiver });
    })
    refl (sym (refused_kept notes old.refused none)) refl refl refl

-- The poll is still open, because the new receiver is busy.
pub takes_on : (old : Engine) (value : ℕ) (notes : List Note) (next : Receiver) (busy : Bool) (config : EndConfig) (end : End) (place : places.Place) →
    old.place ≡ Polling → rx.TakesStep old.receiver value notes next → RefinesAt old config end place → refused_after notes None ≡ None →
    ((w : EndConfig) (e : End) (p : places.Place) → rx.RefinesAt next w e p → busy ≡ places.is_open p) → busy ≡ true →
    Takes old value notes (record old { receiver = next })
takes_on old value notes next busy config end place polls took refines none busy_is on =
    takes old _ value notes next config end place polls took refines
    (λ w e p at s.
    let goes = goes_on_open (places.next_place w p value) (sym (busy_is w _ _ s.receiver) ∙ on) (kept_place next.frame notes w e p value s.noted none) in
    record {
      made = at.made;
      standing = kept_standing old next.frame notes w e p value at s.noted none;
      few = s.few at.few;
      at = subst (λ q. IsAt q (record old { receiver = next }) w (end_after e (places.step_at w p value)) (places.next_place w p value)) (sym polls) (goes, s.sender, s.receiver);
    })
    refl (sym (refused_kept notes old.refused none)) refl refl (ap is_down_at polls)
