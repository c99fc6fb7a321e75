-- An endpoint whose sender or receiver made a step.
use Rattle.std.proofs.Common.{◌≡◌, ◌≢◌, ℕ, true, Option, List, refl, subst, ap, sym, ◌∙◌, arith}
use Rattle.std.proofs.lemmas.Grind.{common_steps}
use Rattle.std.specs.Prelude.{is_some}
use Rattle.split_ring.specs.declared.ranges.Refused.{Refused}
use Rattle.link_handshake.specs.HandshakeState.{HandshakeState}
use Rattle.tx_engine.specs.Sender.{Sender}
use Rattle.rx_engine.specs.Receiver.{Receiver}
use Rattle.rx_engine.specs.Receiver as receiver
use Rattle.rx_engine.specs.Refinement as rx
use Rattle.split_ring.specs.declared.steps.Note.{Note}
use Rattle.call_grammar.specs.Ends.{End, end_after}
use Rattle.call_grammar.specs.Permitted.{HasSections}
use Rattle.call_grammar.specs.Calls.{EndConfig}
use Rattle.call_grammar.specs.Places as places
use Rattle.link_endpoint.specs.declared.place.Place.{Place}
use Rattle.link_endpoint.specs.declared.place.Place.TheVariants.{Refusing}
use Rattle.link_endpoint.specs.declared.endpoint.Endpoint.TheInside.{Inside}
use Rattle.link_endpoint.specs.Engine.{Engine}
use Rattle.link_endpoint.specs.Representation.{engine_of, IsWellFormed}
use Rattle.link_endpoint.specs.Refinement.{RefinesAt, Takes}
use Rattle.link_endpoint.specs.Refusal.{IsAfterRefusal}

-- The sender's parameters are unchanged.
pub record KeepsNumbers (old new : Sender) : Type 0 where
  pub sizes : new.sizes ≡ old.sizes
  pub own : new.own ≡ old.own
  pub other_start : new.other_start ≡ old.other_start
  pub target : new.target ≡ old.target
  pub vector : new.vector ≡ old.vector

pub config_stays : (i : Inside) (next : Sender) → KeepsNumbers i.tx next → (engine_of i).config ≡ (engine_of (record i { tx = next })).config
config_stays i next keeps = grind (arith, common_steps)

pub seen_sent : (i : Inside) (next : Sender) (refused : Option Refused) (place : Place) → KeepsNumbers i.tx next →
    record (engine_of i) { refused = refused; place = place; sender = next } ≡ engine_of (record i { refused = refused; place = place; tx = next })
seen_sent i next refused place keeps = ap (λ (w : EndConfig). let e : Engine = record { config = w; phase = i.handshake.phase; refused = refused; place = place; sender = next; receiver = i.rx } in e) (config_stays i next keeps)

-- The endpoint refines an end.
pub record StandsFor (e : Engine) (config : EndConfig) : Type 0 where
  pub end : End
  pub place : places.Place
  pub refines : RefinesAt e config end place

-- It does after a step of the grammar.
pub stands : (i : Inside) (new : Engine) (value : ℕ) (notes : List Note) → IsWellFormed i → Takes (engine_of i) value notes new → StandsFor new (engine_of i).config
stands i new value notes kept takes = record {
  end = end_after kept.end (places.step_at (engine_of i).config kept.at value);
  place = places.next_place (engine_of i).config kept.at value;
  refines = takes.refines (engine_of i).config kept.end kept.at kept.refines;
}

-- An endpoint with the same sender stays well formed if it refines an end.
pub kept_with : (i : Inside) (handshake : HandshakeState) (refused : Option Refused) (place : Place) (next : Receiver) → IsWellFormed i → rx.IsMadeFor next (engine_of i).config →
    (place ≢ Refusing → handshake.mark ≡ is_some refused) → (is_some refused ≡ true → IsAfterRefusal place handshake.phase) →
    StandsFor (engine_of (record i { handshake = handshake; refused = refused; place = place; rx = next })) (engine_of i).config → IsWellFormed (record i { handshake = handshake; refused = refused; place = place; rx = next })
kept_with i handshake refused place next kept made mark left later = record {
  sections = kept.sections;
  own_room = kept.own_room;
  their_room = kept.their_room;
  sender = kept.sender;
  receiver = made;
  mark = mark;
  left = left;
  end = later.end;
  at = later.place;
  refines = later.refines;
}

-- The same after steps of the receiver.
pub kept_received : (i : Inside) (refused : Option Refused) (place : Place) (next : Receiver) → IsWellFormed i → receiver.KeepsNumbers i.rx next →
    (place ≢ Refusing → i.handshake.mark ≡ is_some refused) → (is_some refused ≡ true → IsAfterRefusal place i.handshake.phase) →
    StandsFor (engine_of (record i { refused = refused; place = place; rx = next })) (engine_of i).config → IsWellFormed (record i { refused = refused; place = place; rx = next })
kept_received i refused place next kept keeps mark left later =
    let made : rx.IsMadeFor next (engine_of i).config = record {
      sizes = kept.receiver.sizes ∙ sym keeps.sizes;
      own = kept.receiver.own ∙ sym keeps.own;
      other_start = kept.receiver.other_start ∙ sym keeps.other_start;
      target = kept.receiver.target ∙ sym keeps.target;
      vector = kept.receiver.vector ∙ sym keeps.vector;
    } in
    kept_with i i.handshake refused place next kept made mark left later

-- The same after steps of the sender, with the same receiver.
pub kept_sent : (i : Inside) (refused : Option Refused) (place : Place) (next : Sender) → IsWellFormed i → KeepsNumbers i.tx next →
    (place ≢ Refusing → i.handshake.mark ≡ is_some refused) → (is_some refused ≡ true → IsAfterRefusal place i.handshake.phase) →
    StandsFor (engine_of (record i { refused = refused; place = place; tx = next })) (engine_of i).config → IsWellFormed (record i { refused = refused; place = place; tx = next })
kept_sent i refused place next kept keeps mark left later =
    let new : Inside = record i { refused = refused; place = place; tx = next } in
    record {
      sections = subst HasSections (config_stays i next keeps) kept.sections;
      own_room = rw keeps.sizes kept.own_room;
      their_room = rw (keeps.sizes, keeps.other_start) kept.their_room;
      sender = record { sizes = refl; own = kept.sender.own ∙ sym keeps.own; other_start = refl; target = kept.sender.target ∙ sym keeps.target; vector = refl };
      receiver = subst (rx.IsMadeFor i.rx) (config_stays i next keeps) kept.receiver;
      mark = mark;
      left = left;
      end = later.end;
      at = later.place;
      refines = subst (λ w. RefinesAt (engine_of new) w later.end later.place) (config_stays i next keeps) later.refines;
    }
