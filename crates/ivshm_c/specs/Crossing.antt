-- The values that cross to C and back: numbers instead of enums.
use Rattle.std.specs.Prelude.{ℕ, ◌≡◌, ◌+◌, List, [], ◌∷◌, length, Option, Some, None, ◌==◌, if◌then◌else◌}
use Rattle.split_ring.specs.declared.sizes.TheConstants.{FRAME_OVERHEAD}
use Rattle.link_handshake.specs.declared.Phase.{Phase}
use Rattle.link_handshake.specs.declared.Phase.TheVariants.{Reset, Init, Ready, Run}
use Rattle.split_ring.specs.declared.steps.Access.{Access}
use Rattle.split_ring.specs.declared.steps.Access.TheVariants as access
use Rattle.split_ring.specs.declared.steps.Note.{Note}
use Rattle.split_ring.specs.declared.steps.Note.TheVariants as note
use Rattle.split_ring.specs.declared.ranges.FieldName.{FieldName}
use Rattle.split_ring.specs.declared.ranges.FieldName.TheVariants.{AvailIndex, AvailEntry, DescAddress, DescLength, DescFlags, UsedIndex, UsedId}
use Rattle.split_ring.specs.declared.ranges.Refused.{Refused}
use Rattle.link_endpoint.specs.declared.place.Call.{Call}
use Rattle.link_endpoint.specs.declared.place.Call.TheVariants.{Tick, Poll, Stop}
use Rattle.link_endpoint.specs.declared.order.Order.{Order}
use Rattle.link_endpoint.specs.declared.order.Order.TheVariants.{Relaxed, Acquire, Release}
use Rattle.link_endpoint.specs.declared.order.Ordering.{Ordering}
use Rattle.link_endpoint.specs.Engine.{is_busy, delivered}
use Rattle.tx_engine.specs.declared.ahead.Burst.{Burst}
use Rattle.tx_engine.specs.declared.ahead.Bursts.{Bursts}
use Rattle.tx_engine.specs.declared.ahead.Publication.{Publication}
use Rattle.rx_engine.specs.declared.ahead.FrameReturn.{FrameReturn}
use Rattle.ivshm_c.specs.declared.crossing.Access as crossed_access
use Rattle.ivshm_c.specs.declared.crossing.Burst as crossed_burst
use Rattle.ivshm_c.specs.declared.crossing.Bursts as crossed_bursts
use Rattle.ivshm_c.specs.declared.crossing.FrameReturn as crossed_return
use Rattle.ivshm_c.specs.declared.crossing.Publication as crossed_publication
use Rattle.ivshm_c.specs.declared.crossing.Note as crossed_note
use Rattle.ivshm_c.specs.declared.crossing.Notes as crossed_notes
use Rattle.ivshm_c.specs.declared.crossing.View.{View}
use Rattle.ivshm_c.specs.declared.end_state.EndState.{EndState}
use Rattle.ivshm_c.specs.declared.end_state.Outcome.{Outcome}
use Rattle.ivshm_c.specs.declared.end_state.Outcome.TheVariants as outcome
use Rattle.core.specs.Int.{from_bool}

-- The call with this number.
abbrev pub call_numbered : ℕ → Option Call
call_numbered number = if number == 0 then Some Tick else if number == 1 then Some Poll else if number == 2 then Some Stop else None

-- The State value of a phase.
abbrev pub state_of : Phase → ℕ
state_of Reset = 0
state_of Init = 1
state_of Ready = 2
state_of Run = 3

-- The number of a field of the link, from 1.
abbrev pub field_number : FieldName → ℕ
field_number AvailIndex = 1
field_number AvailEntry = 2
field_number DescAddress = 3
field_number DescLength = 4
field_number DescFlags = 5
field_number UsedIndex = 6
field_number UsedId = 7

-- The number of a memory order.
abbrev pub order_number : Order → ℕ
order_number Relaxed = 0
order_number Acquire = 1
order_number Release = 2

-- The numbers of an access: its kind, its two numbers, the number of words of the burst that it
-- begins, and its order.
abbrev pub numbered : (kind word value count : ℕ) → Ordering → crossed_access.Access
numbered kind word value count ordering = record {
  kind = kind;
  word = word;
  value = value;
  count = count;
  order = order_number ordering.order;
  fence_before = from_bool ordering.fence_before;
  fence_after = from_bool ordering.fence_after;
}

-- An access with its order and the number of words of the burst that it begins.
abbrev pub access_crossed : Access → (reads writes : ℕ) → Ordering → crossed_access.Access
access_crossed access.Nothing reads writes ordering = numbered 0 0 0 0 ordering
access_crossed (access.Read word) reads writes ordering = numbered 1 word 0 reads ordering
access_crossed (access.Write word value) reads writes ordering = numbered 2 word value writes ordering
access_crossed (access.State value) reads writes ordering = numbered 3 0 value 0 ordering
access_crossed (access.Ring target vector) reads writes ordering = numbered 4 target vector 0 ordering

-- A burst, and the three bursts of an offer.
abbrev pub burst_crossed : Burst → crossed_burst.Burst
burst_crossed s = record { word = s.word; count = s.count }

abbrev pub bursts_crossed : Bursts → crossed_bursts.Bursts
bursts_crossed s = record { frame = burst_crossed s.frame; descriptor = burst_crossed s.descriptor; entry = burst_crossed s.entry }

-- The writes that publish a frame.
abbrev pub publication_crossed : Publication → crossed_publication.Publication
publication_crossed made = record { bursts = bursts_crossed made.bursts; index = made.index; accepted = made.accepted }

-- The writes that return a frame.
abbrev pub frame_return_crossed : FrameReturn → crossed_return.FrameReturn
frame_return_crossed made = record { length = made.length; element = made.element; id = made.id; index = made.index; returned = made.returned }

-- The note of a refusal.
abbrev pub refusal_crossed : Refused → crossed_note.Note
refusal_crossed refused = record { kind = 10; field = field_number refused.field; value = refused.value }

-- A note: its kind, the field of a refusal, and its number.
abbrev pub note_crossed : Note → crossed_note.Note
note_crossed note.Over = record { kind = 0; field = 0; value = 0 }
note_crossed (note.Saw state) = record { kind = 1; field = 0; value = state }
note_crossed (note.Reclaim count) = record { kind = 2; field = 0; value = count }
note_crossed note.Full = record { kind = 3; field = 0; value = 0 }
note_crossed note.Accept = record { kind = 4; field = 0; value = 0 }
note_crossed (note.Look count) = record { kind = 5; field = 0; value = count }
note_crossed note.Deliver = record { kind = 6; field = 0; value = 0 }
note_crossed note.Return = record { kind = 7; field = 0; value = 0 }
note_crossed note.Done = record { kind = 8; field = 0; value = 0 }
note_crossed note.Down = record { kind = 9; field = 0; value = 0 }
note_crossed (note.Refuse refused) = refusal_crossed refused

-- The note at a place without a note.
abbrev pub blank : crossed_note.Note
blank = record { kind = 0; field = 0; value = 0 }

-- The notes of a step, at most two.
abbrev pub notes_crossed : List Note → crossed_notes.Notes
notes_crossed [] = record { count = 0; first = blank; second = blank }
notes_crossed (a ∷ []) = record { count = 1; first = note_crossed a; second = blank }
notes_crossed (a ∷ b ∷ more) = record { count = 2; first = note_crossed a; second = note_crossed b }

-- The number of the outcome of an offer.
abbrev pub outcome_number : Outcome → ℕ
outcome_number outcome.Never = 0
outcome_number outcome.Open = 1
outcome_number outcome.Accepted = 2
outcome_number outcome.Full = 3
outcome_number outcome.Refused = 4
outcome_number outcome.Down = 5
outcome_number outcome.Cut = 6

-- The number of a refused value's field, and 0 if no value was refused.
abbrev pub field_of : Option Refused → ℕ
field_of None = 0
field_of (Some refused) = field_number refused.field

-- The refused value, and 0 if no value was refused.
abbrev pub value_of : Option Refused → ℕ
value_of None = 0
value_of (Some refused) = refused.value

-- The numbers of an end's state: its refusal, its last delivered frame, its phase, and its open
-- call. The last two are the outcome of its last offer, and the length of the longest frame.
abbrev pub view_of : EndState → View
view_of end_state = let end = end_state.endpoint in record {
  refused_value = value_of end.refused;
  delivered = length (delivered end);
  refused_field = field_of end.refused;
  state = state_of end.phase;
  busy = from_bool (is_busy end);
  outcome = outcome_number end_state.outcome;
  longest = end.config.sizes.mtu + FRAME_OVERHEAD;
}

-- The crossed numbers determine the values: accesses and their orders, and notes.
pub record CrossingsHaveContracts : Type 0 where
  pub accesses : (a b : Access) (reads writes others more : ℕ) (at by : Ordering) →
      access_crossed a reads writes at ≡ access_crossed b others more by → a ≡ b
  pub orders : (a b : Access) (reads writes others more : ℕ) (at by : Ordering) →
      access_crossed a reads writes at ≡ access_crossed b others more by → at ≡ by
  pub notes : (a b : Note) → note_crossed a ≡ note_crossed b → a ≡ b
