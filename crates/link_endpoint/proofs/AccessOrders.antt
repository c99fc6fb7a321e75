-- The memory order of the accesses of an offer and of a poll.
use Rattle.std.proofs.Common.{◌≡◌, true, refl}
use Rattle.call_grammar.specs.Places as places
use Rattle.call_grammar.specs.Orders.{word_kind}
use Rattle.tx_engine.specs.Refinement as tx
use Rattle.rx_engine.specs.Refinement as rx
use Rattle.link_endpoint.specs.Orders.{order_at, order_of}
use Rattle.link_endpoint.proofs.OfferAndPollSteps.{in_offer, in_poll}

pub offer_order : (place : places.Place) → in_offer place ≡ true → order_of (tx.rings place) (word_kind place) ≡ order_at place
offer_order (places.ReadingUsedIndex pending freed) is = refl
offer_order (places.ReadingUsedId pending freed more) is = refl
offer_order (places.WritingFrameWord pending at more) is = refl
offer_order (places.WritingDescAddressLow pending) is = refl
offer_order (places.WritingDescAddressHigh pending) is = refl
offer_order (places.WritingDescLength pending) is = refl
offer_order (places.WritingDescFlags pending) is = refl
offer_order (places.WritingAvailEntry pending) is = refl
offer_order (places.WritingAvailIndex pending) is = refl
offer_order (places.ReadingAvailEvent number) is = refl
offer_order places.RingingOffer is = refl
offer_order _ is = absurd (cc)

pub poll_order : (place : places.Place) → in_poll place ≡ true → order_of (rx.rings place) (word_kind place) ≡ order_at place
poll_order (places.ReadingAvailIndex taken last) is = refl
poll_order (places.WritingAvailEvent taken) is = refl
poll_order (places.ReadingAvailEntry number more) is = refl
poll_order (places.ReadingDescAddressLow number more entry) is = refl
poll_order (places.ReadingDescAddressHigh number more entry low) is = refl
poll_order (places.ReadingDescLength number more entry address) is = refl
poll_order (places.ReadingDescFlags number more entry address bytes) is = refl
poll_order (places.ReadingFrameWord number more entry address bytes read words) is = refl
poll_order (places.WritingUsedId number more entry) is = refl
poll_order (places.WritingUsedLength number more) is = refl
poll_order (places.WritingUsedIndex number more) is = refl
poll_order places.RingingPoll is = refl
poll_order _ is = absurd (cc)
