-- The rows of the table of orders that the laws rest on, one lemma for each row. A proof of a law
-- that needs a row cites its lemma, so a table without the row fails here.
use Rattle.std.proofs.Common.{◌≡◌, ℕ, Bool, true, false, refl}
use Rattle.std.specs.Prelude.{◌||◌}
use Rattle.link_handshake.specs.HandshakeState.{HandshakeState}
use Rattle.call_grammar.specs.Offers.{PendingOffer}
use Rattle.call_grammar.specs.Places.{Place, ReadingOtherState, WritingState, Refusing, ReadingUsedIndex, WritingAvailIndex, ReadingAvailEvent, RingingOffer, ReadingAvailIndex, WritingAvailEvent, WritingUsedIndex, RingingPoll}
use Rattle.link_invariant.specs.LinkConfig.{LinkConfig}
use Rattle.weak_orders.specs.Orders.{acquires, releases, fences_after, owes}
use Rattle.weak_orders.specs.Memory.{Moment, Resets, Does, is_release}

-- Loads

pub state_load_acquires : (handshake : HandshakeState) → acquires (ReadingOtherState handshake) ≡ true
state_load_acquires handshake = refl

pub used_index_load_acquires : (pending : PendingOffer) (freed : ℕ) → acquires (ReadingUsedIndex pending freed) ≡ true
used_index_load_acquires pending freed = refl

pub avail_index_load_acquires : (taken : ℕ) (last : Bool) → acquires (ReadingAvailIndex taken last) ≡ true
avail_index_load_acquires taken last = refl

-- Stores

pub state_store_releases : (state : ℕ) → releases (WritingState state) ≡ true
state_store_releases state = refl

pub refusal_releases : releases Refusing ≡ true
refusal_releases = refl

pub reset_releases : (place : Place) → is_release place Resets ≡ true
reset_releases place = refl

pub avail_index_store_releases : (pending : PendingOffer) → releases (WritingAvailIndex pending) ≡ true
avail_index_store_releases pending = refl

pub used_index_store_releases : (number more : ℕ) → releases (WritingUsedIndex number more) ≡ true
used_index_store_releases number more = refl

-- Doorbells

pub offer_doorbell_releases : releases RingingOffer ≡ true
offer_doorbell_releases = refl

pub poll_doorbell_releases : releases RingingPoll ≡ true
poll_doorbell_releases = refl

-- Full fences: the end owes one after the step from the first place to the second

pub state_store_fences : (state : ℕ) (next : Place) → owes (WritingState state) next ≡ true
state_store_fences state next = refl

pub refusal_fences : (next : Place) → owes Refusing next ≡ true
refusal_fences next = refl

pub reset_fences : (link_config : LinkConfig) (p : ℕ) (old new : Moment) → Does link_config p old new Resets → new.owed ≡ true
reset_fences link_config p old new d = d.3

pub event_store_fences : (taken : ℕ) (next : Place) → owes (WritingAvailEvent taken) next ≡ true
event_store_fences taken next = refl

or_true : (a : Bool) → (a || true) ≡ true
or_true true = refl
or_true false = refl

pub event_load_fences : (place : Place) (number : ℕ) → owes place (ReadingAvailEvent number) ≡ true
event_load_fences place number = or_true (fences_after place)
