-- The ends that a receiver refines, the places of the call grammar, and the receiver's steps there.
use Rattle.std.specs.Prelude.{ℕ, ◌≡◌, ◌+◌, ◌-◌, ◌%◌, ◌==◌, Bool, true, false, if◌then◌else◌, List, [], ◌∷◌, ◌++◌, length, flat_map}
use Rattle.link_handshake.specs.declared.Phase.{Phase}
use Rattle.link_handshake.specs.declared.Phase.TheVariants.{Ready, Run}
use Rattle.split_ring.specs.declared.steps.Note.{Note}
use Rattle.call_grammar.specs.Steps.{marks_of}
use Rattle.call_grammar.specs.Ends.{End, end_after}
use Rattle.call_grammar.specs.Ticks.{EndConfig}
use Rattle.call_grammar.specs.Words.{word_bytes, words_for, frame_in}
use Rattle.call_grammar.specs.Places as laws
use Rattle.rx_engine.specs.Receiver.{Receiver, is_busy, words_read, unreturned}
use Rattle.rx_engine.specs.declared.place.Place.{Place}
use Rattle.rx_engine.specs.declared.place.Place.TheVariants.{Closed, ReadingAvailIndex, WritingAvailEvent, ReadingAvailEntry, ReadingDescAddressLow, ReadingDescAddressHigh, ReadingDescLength, ReadingDescFlags, ReadingFrameWord, WritingUsedId, WritingUsedLength, WritingUsedIndex, Ringing, Refusing}

-- The place of the grammar, from the number of the current item and the words read of its frame.
abbrev pub place_view : ℕ → List ℕ → Place → laws.Place
place_view number read Closed = laws.Closed
place_view number read (ReadingAvailIndex last) = laws.ReadingAvailIndex number last
place_view number read WritingAvailEvent = laws.WritingAvailEvent number
place_view number read (ReadingAvailEntry more) = laws.ReadingAvailEntry number more
place_view number read (ReadingDescAddressLow more entry) = laws.ReadingDescAddressLow number more entry
place_view number read (ReadingDescAddressHigh more entry low) = laws.ReadingDescAddressHigh number more entry low
place_view number read (ReadingDescLength more entry address) = laws.ReadingDescLength number more entry address
place_view number read (ReadingDescFlags more entry address bytes) = laws.ReadingDescFlags number more entry address bytes
place_view number read (ReadingFrameWord more entry address bytes at) = laws.ReadingFrameWord number more entry address bytes read (words_for bytes - (at + 1))
place_view number read (WritingUsedId more entry) = laws.WritingUsedId number more entry
place_view number read (WritingUsedLength more) = laws.WritingUsedLength number more
place_view number read (WritingUsedIndex more) = laws.WritingUsedIndex number more
place_view number read Ringing = laws.RingingPoll
place_view number read Refusing = laws.Refusing

-- The receiver was made for this configuration: its fixed parameters are the configuration's.
pub record IsMadeFor (rx : Receiver) (config : EndConfig) : Type 0 where
  pub sizes : config.sizes ≡ rx.sizes
  pub own : config.own ≡ rx.own
  pub other_start : config.other_start ≡ rx.other_start
  pub target : config.other ≡ rx.target
  pub vector : config.vector ≡ rx.vector

-- The doorbell of a poll is next.
abbrev pub rings : laws.Place → Bool
rings laws.RingingPoll = true
rings _ = false

-- A session is open in these phases.
abbrev pub has_session : Phase → Bool
has_session Ready = true
has_session Run = true
has_session _ = false

-- The receiver's count is the end's, modulo 65,536. All frames delivered are returned, except one
-- that is being returned. The last read of the available index found the same for both.
pub record CountsMatch (rx : Receiver) (end : End) : Type 0 where
  pub returned : end.returned % 65536 ≡ rx.returned
  pub delivered : length end.delivered ≡ end.returned + unreturned rx.place
  pub found_none : end.found_none ≡ rx.found_none

-- The receiver refines the end `end` at `place`, under the configuration `config`. It counts the
-- end's frames if a poll or a session is open, and the bytes gathered are the bytes of the words
-- read.
pub record RefinesAt (rx : Receiver) (config : EndConfig) (end : End) (place : laws.Place) : Type 0 where
  pub made : IsMadeFor rx config
  pub busy : is_busy rx ≡ true → CountsMatch rx end
  pub session : has_session end.handshake.phase ≡ true → CountsMatch rx end
  pub read : List ℕ
  pub read_count : length read ≡ words_read rx.place
  pub gathered : rx.gathered ≡ flat_map word_bytes read
  pub place_is : place ≡ place_view end.returned read rx.place

-- The frame delivered last after the step at a place that met `value`. It is the next frame if its
-- last word was read, else the frame before.
abbrev pub frame_after : laws.Place → ℕ → List ℕ → List ℕ
frame_after (laws.ReadingFrameWord number more entry address bytes read words) value frame = if words == 0 then frame_in bytes (read ++ value ∷ []) else frame
frame_after place value frame = frame

-- The step that met `value`, with these notes, is the step of the grammar for this end at this
-- place.
pub record TakesAt (old : Receiver) (value : ℕ) (notes : List Note) (new : Receiver) (config : EndConfig) (end : End) (place : laws.Place) : Type 0 where
  pub marks : marks_of new.frame notes ≡ laws.marks_at config place value
  pub refines : RefinesAt new config (end_after end (laws.step_at config place value)) (laws.next_place config place value)
  pub frame : new.frame ≡ frame_after place value old.frame

-- The step is the step of the grammar for each end and at each place that the receiver refines.
abbrev pub TakesStep : Receiver → ℕ → List Note → Receiver → Type 0
TakesStep old value notes new = (config : EndConfig) (end : End) (place : laws.Place) → RefinesAt old config end place → TakesAt old value notes new config end place

-- The receiver makes this step, and the poll is still open.
abbrev pub StaysOpen : Receiver → ℕ → List Note → Receiver → Type 0
StaysOpen old value notes new = TakesStep old value notes new × (is_busy new ≡ true)

-- A new session: no frame is delivered or returned, and no available index was read.
pub record IsFreshSession (end : End) : Type 0 where
  pub delivered : end.delivered ≡ []
  pub returned : end.returned ≡ 0
  pub found_none : end.found_none ≡ false

-- `later` is the same as `end` in all that a receiver without an open poll depends on. It has a
-- session only if `end` has one.
pub record SameSession (end later : End) : Type 0 where
  pub delivered : later.delivered ≡ end.delivered
  pub returned : later.returned ≡ end.returned
  pub found_none : later.found_none ≡ end.found_none
  pub session : has_session later.handshake.phase ≡ true → has_session end.handshake.phase ≡ true

-- A receiver without an open poll refines an end as long as the session lasts.
abbrev pub IdleEngineOutlivesSteps : Type 0
IdleEngineOutlivesSteps = (rx : Receiver) (config : EndConfig) (end later : End) → RefinesAt rx config end laws.Closed → SameSession end later →
    RefinesAt rx config later laws.Closed
