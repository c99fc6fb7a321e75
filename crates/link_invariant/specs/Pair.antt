-- The invariant of two honest ends.
use Rattle.std.specs.Prelude.{◌≡◌, ◌≢◌, ℕ, suc, ◌+◌, ◌-◌, ◌%◌, ◌<◌, ◌≤◌, ◌⊎◌, false, List, ◌++◌, length}
use Rattle.split_ring.specs.Layout.{size_of, limit_of}
use Rattle.link_handshake.specs.declared.Phase.TheVariants.{Init, Ready, Run}
use Rattle.call_grammar.specs.Ends.{End}
use Rattle.call_grammar.specs.Places.{Place, WritingState, Refusing, ReadingUsedId, ReadingAvailEntry, ReadingDescAddressLow, ReadingDescAddressHigh, ReadingDescLength, ReadingDescFlags, ReadingFrameWord, WritingUsedId, WritingUsedLength, WritingUsedIndex}
use Rattle.link_invariant.specs.Fields.{Field, UsedId}
use Rattle.link_invariant.specs.LinkConfig.{LinkConfig, fields, first_words}
use Rattle.link_invariant.specs.EndInvariant.{frame_at, start_in, OwnSection, EndInvariant}

-- The ids below this number were read: all ids of the frames freed, or fewer while ids are read.
abbrev pub freed_at : ℕ → Place → ℕ
freed_at freed (ReadingUsedId pending number more) = number
freed_at freed place = freed

-- The values that an open poll has read are the sender's, and the items left were accepted

abbrev pub AreAccepted : List (List ℕ) → (number more : ℕ) → Type 0
AreAccepted frames number more = number + suc more ≤ length frames

abbrev pub IsOwnEntry : LinkConfig → (number entry : ℕ) → Type 0
IsOwnEntry link_config number entry = entry ≡ number % limit_of link_config.sizes

abbrev pub IsOwnStart : LinkConfig → List (List ℕ) → (number address : ℕ) → Type 0
IsOwnStart link_config frames number address = address ≡ start_in link_config frames number

abbrev pub IsSize : List (List ℕ) → (number bytes : ℕ) → Type 0
IsSize frames number bytes = bytes ≡ length (frame_at frames number)

-- The used id of this number is written.
abbrev pub IsNamed : LinkConfig → (Field → ℕ) → ℕ → Type 0
IsNamed link_config field number = field (UsedId (number % size_of link_config.sizes)) ≡ number % limit_of link_config.sizes

abbrev pub Polls : LinkConfig → (Field → ℕ) → List (List ℕ) → Place → Type 0
Polls link_config field frames (ReadingAvailEntry number more) = AreAccepted frames number more
Polls link_config field frames (ReadingDescAddressLow number more entry) = AreAccepted frames number more × IsOwnEntry link_config number entry
Polls link_config field frames (ReadingDescAddressHigh number more entry low) = AreAccepted frames number more × IsOwnEntry link_config number entry × IsOwnStart link_config frames number low
Polls link_config field frames (ReadingDescLength number more entry address) = AreAccepted frames number more × IsOwnEntry link_config number entry ×
    IsOwnStart link_config frames number address
Polls link_config field frames (ReadingDescFlags number more entry address bytes) =
    AreAccepted frames number more × IsOwnEntry link_config number entry × IsOwnStart link_config frames number address × IsSize frames number bytes
Polls link_config field frames (ReadingFrameWord number more entry address bytes read words) =
    AreAccepted frames number more × IsOwnEntry link_config number entry × IsOwnStart link_config frames number address × IsSize frames number bytes ×
    (read ≡ first_words (frame_at frames number) (length read))
Polls link_config field frames (WritingUsedId number more entry) = AreAccepted frames number more × IsOwnEntry link_config number entry
Polls link_config field frames (WritingUsedLength number more) = AreAccepted frames number more × IsNamed link_config field number
Polls link_config field frames (WritingUsedIndex number more) = AreAccepted frames number more × IsNamed link_config field number
Polls link_config field frames place = Unit {0}

-- The frames in flight. A sender's follow from the frames accepted and freed and the ids read. A
-- receiver's follow from the frames delivered and returned, its place in a call, and the fields of
-- its section.
pub record InFlight (link_config : LinkConfig) (field : Field → ℕ) (accepted : List (List ℕ)) (freed read : ℕ) (delivered : List (List ℕ)) (returned : ℕ)
    (place : Place) : Type 0 where
  pub returns : freed ≤ returned
  pub delivers : returned ≤ length delivered
  pub prefix : (rest : List (List ℕ)) × (accepted ≡ delivered ++ rest)
  pub named : (k : ℕ) → read ≤ k → k < returned → IsNamed link_config field k
  pub polls : Polls link_config field accepted place

-- The frames in flight from one end to another, whose section has these fields.
abbrev pub InFlightBetween : LinkConfig → (Field → ℕ) → (from : End) (from_place : Place) (to : End) (to_place : Place) → Type 0
InFlightBetween link_config field from from_place to to_place = InFlight link_config field from.accepted from.freed (freed_at from.freed from_place) to.delivered to.returned to_place

-- The end is attached to the other's session: it is in RUN, or about to set it.
abbrev pub IsAttached : End → Place → Type 0
IsAttached end place = (end.handshake.phase ≡ Run) ⊎ ((end.handshake.phase ≡ Ready) × (place ≡ WritingState 3))

-- The end opens no session: it is neither in INIT nor about to set it.
abbrev pub OpensNone : End → Place → Type 0
OpensNone end place = (end.handshake.phase ≢ Init) × (place ≢ WritingState 1)

-- Either of two ends is attached.
abbrev pub EitherIsAttached : (ends : ℕ → End) (places : ℕ → Place) → ℕ → Type 0
EitherIsAttached ends places p = IsAttached (ends p) (places p) ⊎ IsAttached (ends (1 - p)) (places (1 - p))

-- The pair: each end satisfies its own invariant, and none is at a refusal or has its mark. While
-- an end is attached, the other opens no session. As soon as either is attached, the sections hold
-- the frames in flight of both directions.
pub record Pair (link_config : LinkConfig) (memory : ℕ → ℕ) (ends : ℕ → End) (places : ℕ → Place) : Type 0 where
  pub alone : (p : ℕ) → p < 2 → EndInvariant link_config memory p (ends p) (places p)
  pub sound : (p : ℕ) → p < 2 → ((ends p).handshake.mark ≡ false) × (places p ≢ Refusing)
  pub cross : (p : ℕ) → p < 2 → IsAttached (ends p) (places p) → OpensNone (ends (1 - p)) (places (1 - p))
  pub sent : (p : ℕ) → p < 2 → EitherIsAttached ends places p → OwnSection link_config (fields link_config memory p) (ends p).accepted (ends p).freed (ends p).returned
  pub link : (p : ℕ) → p < 2 → EitherIsAttached ends places p → InFlightBetween link_config (fields link_config memory (1 - p)) (ends p) (places p) (ends (1 - p)) (places (1 - p))
