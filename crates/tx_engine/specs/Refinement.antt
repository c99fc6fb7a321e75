-- The ends of the call grammar that a sender refines.
use Rattle.std.specs.Prelude.{◌≡◌, ℕ, ◌+◌, ◌/◌, ◌%◌, ◌<◌, Bool, true, false, List, [], ◌∷◌, ◌++◌, length, slice_index}
use Rattle.split_ring.specs.Layout.{size_of, word_offset, AvailEntry}
use Rattle.link_handshake.specs.declared.Phase.{Phase}
use Rattle.link_handshake.specs.declared.Phase.TheVariants.{Ready, Run}
use Rattle.split_ring.specs.declared.steps.Note.{Note}
use Rattle.call_grammar.specs.Steps.{marks_of}
use Rattle.call_grammar.specs.Ends.{End, end_after}
use Rattle.call_grammar.specs.Ticks.{EndConfig}
use Rattle.call_grammar.specs.Words.{lengths_of}
use Rattle.call_grammar.specs.Offers.{PendingOffer, start_at, descriptor_of}
use Rattle.call_grammar.specs.Calls.{pending_of}
use Rattle.call_grammar.specs.Places as laws
use Rattle.frame_slots.specs.declared.slots.Slot as slots
use Rattle.tx_engine.specs.declared.place.Place.{Place}
use Rattle.tx_engine.specs.declared.place.Place.TheVariants.{Closed, Refusing, ReadingUsedIndex, ReadingUsedId, WritingFrameWord, WritingDescAddressLow, WritingDescAddressHigh, WritingDescLength, WritingDescFlags, WritingAvailEntry, WritingAvailIndex, ReadingAvailEvent, Ringing}
use Rattle.tx_engine.specs.Sender.{Sender, IsSender, allocator_of, FlightRefinesSession, is_open}

-- The sender was made for this configuration: its fixed parameters are the configuration's.
pub record IsMadeFor (tx : Sender) (config : EndConfig) : Type 0 where
  pub sizes : config.sizes ≡ tx.sizes
  pub own : config.own ≡ tx.own
  pub other_start : config.other_start ≡ tx.other_start
  pub target : config.other ≡ tx.target
  pub vector : config.vector ≡ tx.vector

-- A session is open in these phases.
abbrev pub has_session : Phase → Bool
has_session Ready = true
has_session Run = true
has_session _ = false

-- The own copy holds the last value that the end wrote to each word of its entries.
abbrev pub HasCopy : Sender → EndConfig → End → Type 0
HasCopy tx config end = (k : ℕ) → k < size_of config.sizes → end.written (config.own + word_offset config.sizes (AvailEntry k)) ≡ slice_index tx.entries (k / 2)

-- The numbers are those of an end that accepted the frames of `end.accepted`, of which `freed` are
-- freed. The stored lengths are the lengths of its frames.
pub record CountsMatch (tx : Sender) (config : EndConfig) (end : End) (freed : ℕ) : Type 0 where
  pub accepted : tx.accepted ≡ length end.accepted % 65536
  pub flight : FlightRefinesSession (allocator_of tx) tx.lengths (lengths_of end.accepted) freed (length end.accepted)
  pub copy : HasCopy tx config end

-- The same, if the offered frame has a slot: it is in flight, and not accepted yet.
pub record CountsPlaced (tx : Sender) (config : EndConfig) (end : End) : Type 0 where
  pub accepted : tx.accepted ≡ length end.accepted % 65536
  pub flight : FlightRefinesSession (allocator_of tx) tx.lengths (lengths_of (end.accepted ++ tx.frame ∷ [])) end.freed (length end.accepted + 1)
  pub copy : HasCopy tx config end

-- The slot of the frame of a pending offer.
abbrev pub slot_of_pending : EndConfig → PendingOffer → slots.Slot
slot_of_pending config pending = record { descriptor = descriptor_of config pending.number; address = start_at config pending }

-- The offered frame has this slot.
abbrev pub HasPlaced : Sender → EndConfig → End → slots.Slot → Type 0
HasPlaced tx config end slot = CountsPlaced tx config end × (slot ≡ slot_of_pending config (pending_of config end tx.frame))

-- The sender's place represents this place of the end. While the sender reads ids, the end has
-- freed all frames that the used index reported, and the sender those whose ids it has read.
abbrev pub IsAt : Place → Sender → EndConfig → End → laws.Place → Type 0
IsAt Closed tx config end place = (place ≡ laws.Closed) × (has_session end.handshake.phase ≡ true → CountsMatch tx config end end.freed)
IsAt Refusing tx config end place = place ≡ laws.Refusing
IsAt ReadingUsedIndex tx config end place = (place ≡ laws.ReadingUsedIndex (pending_of config end tx.frame) end.freed) × CountsMatch tx config end end.freed
IsAt (ReadingUsedId more) tx config end place =
    (freed : ℕ) × (place ≡ laws.ReadingUsedId (pending_of config end tx.frame) freed more) × (end.freed ≡ freed + more + 1) × CountsMatch tx config end freed
IsAt (WritingFrameWord slot at more) tx config end place = (place ≡ laws.WritingFrameWord (pending_of config end tx.frame) at more) × HasPlaced tx config end slot
IsAt (WritingDescAddressLow slot) tx config end place = (place ≡ laws.WritingDescAddressLow (pending_of config end tx.frame)) × HasPlaced tx config end slot
IsAt (WritingDescAddressHigh slot) tx config end place = (place ≡ laws.WritingDescAddressHigh (pending_of config end tx.frame)) × HasPlaced tx config end slot
IsAt (WritingDescLength slot) tx config end place = (place ≡ laws.WritingDescLength (pending_of config end tx.frame)) × HasPlaced tx config end slot
IsAt (WritingDescFlags slot) tx config end place = (place ≡ laws.WritingDescFlags (pending_of config end tx.frame)) × HasPlaced tx config end slot
IsAt (WritingAvailEntry slot) tx config end place = (place ≡ laws.WritingAvailEntry (pending_of config end tx.frame)) × HasPlaced tx config end slot
IsAt WritingAvailIndex tx config end place =
    (beside : ℕ) × (place ≡ laws.WritingAvailIndex (record { frame = tx.frame; number = length end.accepted; lengths = lengths_of (end.accepted ++ tx.frame ∷ []); neighbour_word = beside })) ×
    CountsPlaced tx config end
IsAt ReadingAvailEvent tx config end place =
    (number : ℕ) × (place ≡ laws.ReadingAvailEvent number) × (number + 1 ≡ length end.accepted) × CountsMatch tx config end end.freed
IsAt Ringing tx config end place = (place ≡ laws.RingingOffer) × CountsMatch tx config end end.freed

-- The sender refines the end `end` at `place`, under the configuration `config`.
pub record RefinesAt (tx : Sender) (config : EndConfig) (end : End) (place : laws.Place) : Type 0 where
  pub made : IsMadeFor tx config
  pub at : IsAt tx.place tx config end place

-- The doorbell of an offer is next.
abbrev pub rings : laws.Place → Bool
rings laws.RingingOffer = true
rings _ = false

-- For every end that it refines, the sender makes the step of its place that meets `value`, with
-- these notes, and then is `new`.
pub record TakesStep (old : Sender) (value : ℕ) (notes : List Note) (new : Sender) : Type 0 where
  pub marks : (config : EndConfig) (end : End) (place : laws.Place) → RefinesAt old config end place →
      marks_of old.frame notes ≡ laws.marks_at config place value
  pub refines : (config : EndConfig) (end : End) (place : laws.Place) → RefinesAt old config end place →
      RefinesAt new config (end_after end (laws.step_at config place value)) (laws.next_place config place value)
  pub kept : new ≡ record old {
    accepted = new.accepted;
    next = new.next;
    in_flight = new.in_flight;
    head = new.head;
    tail = new.tail;
    left = new.left;
    lengths = new.lengths;
    entries = new.entries;
    place = new.place;
  }

-- The sender makes this step, and the offer is still open.
pub record StaysOpen (old : Sender) (value : ℕ) (notes : List Note) (new : Sender) : Type 0 where
  pub takes : TakesStep old value notes new
  pub opened : is_open new.place ≡ true
  pub sender : IsSender new

-- A new session: no frame is accepted or freed, and the last write to each word of the entries was
-- 0.
pub record IsFreshSession (config : EndConfig) (end : End) : Type 0 where
  pub accepted : end.accepted ≡ []
  pub freed : end.freed ≡ 0
  pub blank : (k : ℕ) → k < size_of config.sizes → end.written (config.own + word_offset config.sizes (AvailEntry k)) ≡ 0

-- A session is open at `end`, and `later` is the same in all that a sender without an open offer
-- depends on.
pub record SameSession (config : EndConfig) (end later : End) : Type 0 where
  pub open_in : has_session end.handshake.phase ≡ true
  pub accepted : later.accepted ≡ end.accepted
  pub freed : later.freed ≡ end.freed
  pub copy : (k : ℕ) → k < size_of config.sizes →
      later.written (config.own + word_offset config.sizes (AvailEntry k)) ≡ end.written (config.own + word_offset config.sizes (AvailEntry k))

-- A sender without an open offer that refines an end also refines a later end that has no session
-- or is in the same session.
abbrev pub IdleEngineOutlivesSteps : Type 0
IdleEngineOutlivesSteps = (tx : Sender) (config : EndConfig) (end later : End) → RefinesAt tx config end laws.Closed →
    (has_session later.handshake.phase ≡ true → SameSession config end later) → RefinesAt tx config later laws.Closed
