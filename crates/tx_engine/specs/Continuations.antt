-- The place of an offer after a read, and after writes of a descriptor's words.
use Rattle.std.specs.Prelude.{◌≡◌, ℕ, ◌-◌, ◌<◌, ◌==◌, Bool, true, false, List, [], ◌∷◌, slice_set, if◌then◌else◌}
use Rattle.split_ring.specs.declared.steps.Note.{Note}
use Rattle.split_ring.specs.declared.steps.Note.TheVariants.{Full}
use Rattle.frame_slots.specs.declared.slots.Slot as slots
use Rattle.frame_slots.specs.Allocator.{Allocator, has_room_in, next_slot, with_placed}
use Rattle.call_grammar.specs.Words.{words_for}
use Rattle.tx_engine.specs.declared.place.Place.{Place}
use Rattle.tx_engine.specs.declared.place.Place.TheVariants.{Closed, ReadingUsedId, WritingFrameWord, WritingDescAddressLow, WritingDescAddressHigh, WritingDescLength, WritingDescFlags, WritingAvailEntry, ReadingAvailEvent, Ringing}

-- The state of an offer of a frame of `length` bytes after a read, with `ids` ids left. It has the
-- place, the slots and the stored lengths. If an id is left, its read is next. If none is left and
-- the frame fits, the first word of the frame is next, and its length is stored. If the frame
-- doesn't fit, the offer is over.
pub record GoesOn (old : Allocator) (lengths : List ℕ) (length ids : ℕ) (place : Place) (new : Allocator) (kept : List ℕ) : Type 0 where
  pub reads : 0 < ids → (place ≡ ReadingUsedId (ids - 1)) × (new ≡ old) × (kept ≡ lengths)
  pub fills : ids ≡ 0 → has_room_in old length ≡ true →
      (place ≡ WritingFrameWord (next_slot old length) 0 (words_for length - 1)) × (new ≡ with_placed old length) × (kept ≡ slice_set lengths old.next length)
  pub ends : ids ≡ 0 → has_room_in old length ≡ false → (place ≡ Closed) × (new ≡ old) × (kept ≡ lengths)

-- The notes of an offer that is at this place after its reads: Full if the offer is over.
abbrev pub full_notes : Place → List Note
full_notes Closed = Full ∷ []
full_notes _ = []

-- The place after the write of the index: a link with events reads the other's avail_event.
abbrev pub place_after_index : Bool → Place
place_after_index events = if events then ReadingAvailEvent else Ringing

-- The place after `count` writes of a descriptor's words.
abbrev pub descriptor_place_of : slots.Slot → ℕ → Place
descriptor_place_of slot count =
    if count == 0 then WritingDescAddressLow slot
    else if count == 1 then WritingDescAddressHigh slot
    else if count == 2 then WritingDescLength slot
    else if count == 3 then WritingDescFlags slot
    else WritingAvailEntry slot
