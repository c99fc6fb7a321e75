-- The steps of an offer and of a poll.
use Rattle.std.proofs.Common.{◌≡◌, ◌≢◌, ℕ, ◌+◌, ◌/◌, ◌<◌, Bool, true, false, List, refl, subst, ap, sym, ◌∙◌, All, arith}
use Rattle.std.specs.Prelude.{if◌then◌else◌}
use Rattle.std.proofs.lemmas.Grind.{common_steps}
use Rattle.split_ring.specs.Layout.{has_events, size_of, limit_of, used_ring_offset, word_offset, AvailEntry}
use Rattle.call_grammar.specs.Ends.{End, end_after}
use Rattle.call_grammar.specs.Calls.{EndConfig}
use Rattle.call_grammar.specs.Places as places
use Rattle.call_grammar.specs.StepBounds.{HasFewInFlight}
use Rattle.tx_engine.specs.Sender.{Sender, IsSender}
use Rattle.tx_engine.specs.Refinement as tx
use Rattle.tx_engine.specs.declared.place.Place as tx_places
use Rattle.tx_engine.specs.declared.place.Place.TheVariants as tx_place
use Rattle.rx_engine.specs.Receiver.{Receiver}
use Rattle.rx_engine.specs.Refinement as rx
use Rattle.rx_engine.specs.declared.place.Place as rx_places
use Rattle.rx_engine.specs.declared.place.Place.TheVariants as rx_place
use Rattle.link_endpoint.specs.Refinement.{goes_on}
use Rattle.link_endpoint.proofs.Notes.{refuses, IsOfOffer, IsOfPoll}

-- The places of an offer that neither ended nor refused a value.
abbrev pub in_offer : places.Place → Bool
in_offer (places.ReadingUsedIndex pending freed) = true
in_offer (places.ReadingUsedId pending freed more) = true
in_offer (places.WritingFrameWord pending at more) = true
in_offer (places.WritingDescAddressLow pending) = true
in_offer (places.WritingDescAddressHigh pending) = true
in_offer (places.WritingDescLength pending) = true
in_offer (places.WritingDescFlags pending) = true
in_offer (places.WritingAvailEntry pending) = true
in_offer (places.WritingAvailIndex pending) = true
in_offer (places.ReadingAvailEvent number) = true
in_offer places.RingingOffer = true
in_offer _ = false

-- The State step of a refusal is next.
abbrev pub is_refusing : places.Place → Bool
is_refusing places.Refusing = true
is_refusing _ = false

-- The places of a poll that neither ended nor refused a value.
abbrev pub in_poll : places.Place → Bool
in_poll (places.ReadingAvailIndex taken last) = true
in_poll (places.WritingAvailEvent taken) = true
in_poll (places.ReadingAvailEntry number more) = true
in_poll (places.ReadingDescAddressLow number more entry) = true
in_poll (places.ReadingDescAddressHigh number more entry low) = true
in_poll (places.ReadingDescLength number more entry address) = true
in_poll (places.ReadingDescFlags number more entry address bytes) = true
in_poll (places.ReadingFrameWord number more entry address bytes read words) = true
in_poll (places.WritingUsedId number more entry) = true
in_poll (places.WritingUsedLength number more) = true
in_poll (places.WritingUsedIndex number more) = true
in_poll places.RingingPoll = true
in_poll _ = false

-- A step of an offer or a poll isn't a State step. It refuses a value exactly if the State step of
-- a refusal is next, and then the end has the mark.
pub record IsStep (config : EndConfig) (end : End) (place : places.Place) (value : ℕ) : Type 0 where
  pub phase : (end_after end (places.step_at config place value)).handshake.phase ≡ end.handshake.phase
  pub mark : (end_after end (places.step_at config place value)).handshake.mark ≡ (if refuses (places.marks_at config place value) then true else end.handshake.mark)
  pub refusing : refuses (places.marks_at config place value) ≡ is_refusing (places.next_place config place value)

-- A step of an offer delivers and returns no frame, and leaves `found_none` unchanged.
pub record IsOfferStep (config : EndConfig) (end : End) (place : places.Place) (value : ℕ) : Type 0 where
  pub step : IsStep config end place value
  pub delivered : (end_after end (places.step_at config place value)).delivered ≡ end.delivered
  pub returned : (end_after end (places.step_at config place value)).returned ≡ end.returned
  pub found_none : (end_after end (places.step_at config place value)).found_none ≡ end.found_none
  pub marks : All IsOfOffer (places.marks_at config place value)

pub offer_step : (config : EndConfig) (end : End) (place : places.Place) (value : ℕ) → in_offer place ≡ true → IsOfferStep config end place value
offer_step config end (places.ReadingUsedIndex pending freed) value is = grind (arith, common_steps)
offer_step config end (places.ReadingUsedId pending freed more) value is = grind (arith, common_steps)
offer_step config end (places.WritingFrameWord pending at more) value is = grind (arith, common_steps)
offer_step config end (places.WritingDescAddressLow pending) value is = grind (arith, common_steps)
offer_step config end (places.WritingDescAddressHigh pending) value is = grind (arith, common_steps)
offer_step config end (places.WritingDescLength pending) value is = grind (arith, common_steps)
offer_step config end (places.WritingDescFlags pending) value is = grind (arith, common_steps)
offer_step config end (places.WritingAvailEntry pending) value is = grind (arith, common_steps)
offer_step config end (places.WritingAvailIndex pending) value is = grind (arith, common_steps)
offer_step config end (places.ReadingAvailEvent number) value is = grind (arith, common_steps)
offer_step config end places.RingingOffer value is = grind (arith, common_steps)
offer_step config end _ value is = absurd (cc)

-- The write of the available index of an offer is next.
abbrev pub is_publishing : places.Place → Bool
is_publishing (places.WritingAvailIndex pending) = true
is_publishing _ = false

-- A step of an offer that accepts no frame doesn't increase the number of frames in flight.
pub offer_few : (config : EndConfig) (end : End) (place : places.Place) (value : ℕ) → in_offer place ≡ true → is_publishing place ≡ false → HasFewInFlight config end →
    HasFewInFlight config (end_after end (places.step_at config place value))
offer_few config end (places.ReadingUsedIndex pending freed) value is quiet few = grind (arith, common_steps)
offer_few config end (places.ReadingUsedId pending freed more) value is quiet few = grind (arith, common_steps)
offer_few config end (places.WritingAvailIndex pending) value is quiet few = absurd (cc)
offer_few config end (places.WritingFrameWord pending at more) value is quiet few = few
offer_few config end (places.WritingDescAddressLow pending) value is quiet few = few
offer_few config end (places.WritingDescAddressHigh pending) value is quiet few = few
offer_few config end (places.WritingDescLength pending) value is quiet few = few
offer_few config end (places.WritingDescFlags pending) value is quiet few = few
offer_few config end (places.WritingAvailEntry pending) value is quiet few = few
offer_few config end (places.ReadingAvailEvent number) value is quiet few = grind (arith, common_steps)
offer_few config end places.RingingOffer value is quiet few = few
offer_few config end _ value is quiet few = absurd (cc)

-- The place of a sender after it published its frame: before the read of avail_event in a link with
-- events, else before the doorbell.
abbrev notify_place_by : Bool → ℕ → places.Place
notify_place_by events number = if events then places.ReadingAvailEvent number else places.RingingOffer

notify_is_at : (p : tx_places.Place) (sender : Sender) (config : EndConfig) (end : End) (events : Bool) (number : ℕ) → tx.IsAt p sender config end (notify_place_by events number) → tx.CountsMatch sender config end end.freed
notify_is_at tx_place.ReadingAvailEvent sender config end events number at = at.3
notify_is_at tx_place.Ringing sender config end events number at = at.1
notify_is_at _ sender config end true number at = absurd (grind (arith, common_steps))
notify_is_at _ sender config end false number at = absurd (grind (arith, common_steps))

notify_has_few : (sender : Sender) (config : EndConfig) (end : End) (number : ℕ) → IsSender sender → tx.RefinesAt sender config end (places.notify_place config number) → HasFewInFlight config end
notify_has_few sender config end number is refines =
    let counts = notify_is_at sender.place sender config end (has_events config.sizes) number refines.at in
    let few = is.in_flight in
    let limit = ap limit_of refines.made.sizes in
    let all = counts.flight.refines.in_flight in
    omega (arith, all, few, limit)

publishing_next : (config : EndConfig) (place : places.Place) (value : ℕ) → is_publishing place ≡ true → (number : ℕ) × (places.next_place config place value ≡ places.notify_place config number)
publishing_next config (places.WritingAvailIndex pending) value is = (pending.number, refl)
publishing_next config _ value is = absurd (cc)

notify_goes_on : (events : Bool) (number : ℕ) → notify_place_by events number ≢ places.Refusing
notify_goes_on true number is = absurd (cc)
notify_goes_on false number is = absurd (cc)

by_publishing : (config : EndConfig) (end : End) (place : places.Place) (value : ℕ) (b : Bool) → is_publishing place ≡ b → in_offer place ≡ true → HasFewInFlight config end → (next : Sender) → IsSender next →
    tx.RefinesAt next config (end_after end (places.step_at config place value)) (places.next_place config place value) → HasFewInFlight config (end_after end (places.step_at config place value))
by_publishing config end place value false is offers few next sender refines = offer_few config end place value offers is few
by_publishing config end place value true is offers few next sender refines =
    let published = publishing_next config place value is in
    notify_has_few next config (end_after end (places.step_at config place value)) published.0 sender
    (subst (λ p. tx.RefinesAt next config (end_after end (places.step_at config place value)) p) published.1 refines)

-- After each step of an offer the number of frames in flight is at most the limit.
pub sent_few : (config : EndConfig) (end : End) (place : places.Place) (value : ℕ) (next : Sender) → in_offer place ≡ true → HasFewInFlight config end → IsSender next →
    tx.RefinesAt next config (end_after end (places.step_at config place value)) (places.next_place config place value) → HasFewInFlight config (end_after end (places.step_at config place value))
sent_few config end place value next offers few sender refines = by_publishing config end place value (is_publishing place) refl offers few next sender refines

-- The limit also holds if the step refuses a value.
publishing_on : (place : places.Place) (config : EndConfig) (value : ℕ) (b : Bool) → is_publishing place ≡ b → places.next_place config place value ≡ places.Refusing → is_publishing place ≡ false
publishing_on place config value false is refusing = is
publishing_on place config value true is refusing = let published = publishing_next config place value is in absurd (notify_goes_on (has_events config.sizes) published.0 (sym published.1 ∙ refusing))

pub refused_few : (config : EndConfig) (end : End) (place : places.Place) (value : ℕ) → in_offer place ≡ true → HasFewInFlight config end → places.next_place config place value ≡ places.Refusing →
    HasFewInFlight config (end_after end (places.step_at config place value))
refused_few config end place value offers few refusing = offer_few config end place value offers (publishing_on place config value (is_publishing place) refl refusing) few

-- The used ring is after the available entries.
below_used : (config : EndConfig) (k : ℕ) → k < size_of config.sizes → word_offset config.sizes (AvailEntry k) < used_ring_offset (size_of config.sizes) / 4
below_used config k below = omega arith

-- A step of a poll accepts and frees no frame, and leaves the words of the available entries.
pub record IsPollStep (config : EndConfig) (end : End) (place : places.Place) (value : ℕ) : Type 0 where
  pub step : IsStep config end place value
  pub accepted : (end_after end (places.step_at config place value)).accepted ≡ end.accepted
  pub freed : (end_after end (places.step_at config place value)).freed ≡ end.freed
  pub entries : (k : ℕ) → k < size_of config.sizes → (end_after end (places.step_at config place value)).written (config.own + word_offset config.sizes (AvailEntry k)) ≡ end.written (config.own + word_offset config.sizes (AvailEntry k))
  pub marks : All IsOfPoll (places.marks_at config place value)

pub poll_step : (config : EndConfig) (end : End) (place : places.Place) (value : ℕ) → in_poll place ≡ true → IsPollStep config end place value
poll_step config end (places.ReadingAvailIndex taken last) value is = grind (arith, common_steps)
poll_step config end (places.WritingAvailEvent taken) value is = grind (arith, common_steps, below_used)
poll_step config end (places.ReadingAvailEntry number more) value is = grind (arith, common_steps)
poll_step config end (places.ReadingDescAddressLow number more entry) value is = grind (arith, common_steps)
poll_step config end (places.ReadingDescAddressHigh number more entry low) value is = grind (arith, common_steps)
poll_step config end (places.ReadingDescLength number more entry address) value is = grind (arith, common_steps)
poll_step config end (places.ReadingDescFlags number more entry address bytes) value is = grind (arith, common_steps)
poll_step config end (places.ReadingFrameWord number more entry address bytes read words) value is = grind (arith, common_steps)
poll_step config end (places.WritingUsedId number more entry) value is = grind (arith, common_steps, below_used)
poll_step config end (places.WritingUsedLength number more) value is = grind (arith, common_steps, below_used)
poll_step config end (places.WritingUsedIndex number more) value is = grind (arith, common_steps, below_used)
poll_step config end places.RingingPoll value is = grind (arith, common_steps)
poll_step config end _ value is = absurd (cc)

-- A call is open and refuses no value at every place except `Closed` and `Refusing`.
pub goes_on_open : (place : places.Place) → places.is_open place ≡ true → is_refusing place ≡ false → goes_on place ≡ true
goes_on_open places.Closed opened other = absurd (cc)
goes_on_open places.Refusing opened other = absurd (cc)
goes_on_open _ opened other = refl

pub closed_is : (place : places.Place) → places.is_open place ≡ false → place ≡ places.Closed
closed_is places.Closed closed = refl
closed_is _ closed = absurd (cc)

pub refusing_is : (place : places.Place) → is_refusing place ≡ true → place ≡ places.Refusing
refusing_is places.Refusing refusing = refl
refusing_is _ refusing = absurd (cc)

-- The open call at a place of the sender is an offer.
sender_at : (p : tx_places.Place) (sender : Sender) (config : EndConfig) (end : End) (place : places.Place) → tx.IsAt p sender config end place → goes_on place ≡ true → in_offer place ≡ true
sender_at tx_place.Closed sender config end place at on = absurd (cc)
sender_at tx_place.Refusing sender config end place at on = absurd (cc)
sender_at _ sender config end place at on = grind (arith, common_steps)

pub offer_at : (sender : Sender) (config : EndConfig) (end : End) (place : places.Place) → tx.RefinesAt sender config end place → goes_on place ≡ true → in_offer place ≡ true
offer_at sender config end place refines on = sender_at sender.place sender config end place refines.at on

-- The open call at a place of the receiver is a poll.
receiver_at : (p : rx_places.Place) (number : ℕ) (read : List ℕ) → goes_on (rx.place_view number read p) ≡ true → in_poll (rx.place_view number read p) ≡ true
receiver_at rx_place.Closed number read on = absurd (cc)
receiver_at rx_place.Refusing number read on = absurd (cc)
receiver_at _ number read on = refl

pub poll_at : (receiver : Receiver) (config : EndConfig) (end : End) (place : places.Place) → rx.RefinesAt receiver config end place → goes_on place ≡ true → in_poll place ≡ true
poll_at receiver config end place refines on = rw refines.place_is (receiver_at receiver.place end.returned refines.read (rw refines.place_is at on))
