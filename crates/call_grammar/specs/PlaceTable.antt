-- The places of a call, as data: a number of a task's step, or a read. One table has the step at
-- each place, and one the next place.
use Rattle.std.specs.Prelude.{ℕ, zero, suc, ◌+◌, ◌-◌, ◌%◌, ◌==◌, Bool, true, false, if◌then◌else◌, List, [], ◌∷◌, ◌++◌, length, get_or}
use Rattle.link_handshake.specs.declared.Move.{Move}
use Rattle.link_handshake.specs.declared.Move.TheVariants.{Stay, Set, ClearThenSet}
use Rattle.link_handshake.specs.HandshakeState.{HandshakeState, move_of}
use Rattle.split_ring.specs.declared.steps.Access.{Access}
use Rattle.split_ring.specs.declared.steps.Access.TheVariants.{Read, Nothing}
use Rattle.split_ring.specs.Layout.{has_events}
use Rattle.split_ring.specs.Spelling.{low_half, high_half}
use Rattle.split_ring.specs.Ranges.{is_avail_index, is_used_index, is_used_id}
use Rattle.call_grammar.specs.Steps.{Mark, Step, step_of}
use Rattle.call_grammar.specs.Ends.{End}
use Rattle.call_grammar.specs.Words.{words_for}
use Rattle.call_grammar.specs.Ticks.{EndConfig, saw_step, tick_marks}
use Rattle.call_grammar.specs.Offers.{PendingOffer, descriptor_of, frame_fits, returned_by, used_index_step, used_index_marks, used_id_step, used_id_marks, avail_event_read_step, wants_doorbell}
use Rattle.call_grammar.specs.Polls.{is_last, published_by, avail_index_step, avail_index_marks}
use Rattle.call_grammar.specs.Calls.{Call, Tick, Stop, Offer, Poll, in_run, pending_of, down_step}
use Rattle.call_grammar.specs.Tasks.{Task, WritingState, Refusing, NotInRun, Publishing, RingingOffer, WritingAvailEvent, Returning, RingingPoll, steps_of}
use Rattle.call_grammar.specs.ItemFields.{item_field, passes, field_marks}

-- The place of a call:
-- - `Closed`: no call is open;
-- - before step `at` of a task;
-- - of a Tick: before the read of the other's State;
-- - of an Offer: before the read of the used index, of an id with `more` left, or of the other's
--   avail_event;
-- - of a Poll: before the read of the available index, the last one or not, or of the next field of
--   an item, with `more` items left and the values of the fields read.
pub data Place : Type 0 where
  Closed : Place
  Doing : (task : Task) (at : ℕ) → Place
  ReadingOtherState : (handshake : HandshakeState) → Place
  ReadingUsedIndex : (pending : PendingOffer) (freed : ℕ) → Place
  ReadingUsedId : (pending : PendingOffer) (freed more : ℕ) → Place
  ReadingAvailEvent : (number : ℕ) → Place
  ReadingAvailIndex : (taken : ℕ) (last : Bool) → Place
  ReadingItem : (number more : ℕ) (read : List ℕ) → Place

-- The next places

abbrev pub begin : Task → Place
begin task = Doing task 0

abbrev pub tick_place : Move → Place
tick_place Stay = Closed
tick_place (Set state) = begin (WritingState false state)
tick_place (ClearThenSet state) = begin (WritingState true state)

abbrev pub ids_place : EndConfig → PendingOffer → (freed count : ℕ) → Place
ids_place config pending freed zero = if frame_fits config pending freed then begin (Publishing pending) else Closed
ids_place config pending freed (suc more) = ReadingUsedId pending freed more

-- A read of the available index that finds no frame ends the poll if it is the last one.
abbrev pub none_place : (taken : ℕ) (last : Bool) → Place
none_place taken last = if last then Closed else begin (WritingAvailEvent taken)

abbrev pub items_place : (number count : ℕ) → Place
items_place number zero = begin RingingPoll
items_place number (suc more) = ReadingItem number more []

-- The place in an item after these values.
abbrev pub item_place : (number more : ℕ) → List ℕ → Place
item_place number more (entry ∷ low ∷ address ∷ bytes ∷ flags ∷ words) =
    if length words == words_for bytes
    then begin (Returning number more entry)
    else ReadingItem number more (entry ∷ low ∷ address ∷ bytes ∷ flags ∷ words)
item_place number more read = ReadingItem number more read

-- The place after a task.
abbrev pub place_after : EndConfig → Task → Place
place_after config (Publishing pending) =
    if has_events config.sizes then ReadingAvailEvent pending.number else begin RingingOffer
place_after config (WritingAvailEvent taken) = ReadingAvailIndex taken true
place_after config (Returning number more entry) = items_place (number + 1) more
place_after config task = Closed

-- The place before step `at` of a task, or after the task if that is the number of its steps.
abbrev pub doing : EndConfig → Task → (at : ℕ) → Place
doing config task at = if at == length (steps_of config task) then place_after config task else Doing task at

-- The place at which an end begins a call.
abbrev pub first_place : EndConfig → End → Call → Place
first_place config end Tick = ReadingOtherState end.handshake
first_place config end Stop = begin (WritingState false 0)
first_place config end (Offer frame) =
    if in_run end.handshake.phase then ReadingUsedIndex (pending_of config end frame) end.freed else begin NotInRun
first_place config end Poll =
    if in_run end.handshake.phase
    then ReadingAvailIndex (length end.delivered) (is_last config end.found_none)
    else begin NotInRun

-- The tables

-- The step at a place that meets `value`.
abbrev pub step_at : EndConfig → Place → (value : ℕ) → Step
step_at config Closed value = step_of Nothing 0 []
step_at config (Doing task at) value = get_or (steps_of config task) at down_step
step_at config (ReadingOtherState handshake) value = saw_step config value (tick_marks value (move_of handshake value))
step_at config (ReadingUsedIndex pending freed) value =
    used_index_step config value (used_index_marks config pending freed value)
step_at config (ReadingUsedId pending freed more) value =
    used_id_step config freed value (used_id_marks config pending freed more value)
step_at config (ReadingAvailEvent number) value = avail_event_read_step config number value
step_at config (ReadingAvailIndex taken last) value =
    avail_index_step config value (avail_index_marks config taken last value)
step_at config (ReadingItem number more read) value =
    step_of (Read (item_field config number read).word) value (field_marks config number read value)

-- The next place, if the read at this place met `value`.
abbrev pub next_place : EndConfig → Place → (value : ℕ) → Place
next_place config Closed value = Closed
next_place config (Doing task at) value = doing config task (at + 1)
next_place config (ReadingOtherState handshake) value = tick_place (move_of handshake value)
next_place config (ReadingUsedIndex pending freed) value =
    if is_used_index (freed % 65536) (high_half value) (pending.number - freed)
    then ids_place config pending freed (returned_by freed value)
    else begin Refusing
next_place config (ReadingUsedId pending freed more) value =
    if is_used_id (descriptor_of config freed) value then ids_place config pending (freed + 1) more else begin Refusing
next_place config (ReadingAvailEvent number) value =
    if wants_doorbell (low_half value) number then begin RingingOffer else Closed
next_place config (ReadingAvailIndex taken last) value =
    if is_avail_index config.sizes (taken % 65536) (high_half value)
    then (if published_by taken value == 0 then none_place taken last else items_place taken (published_by taken value))
    else begin Refusing
next_place config (ReadingItem number more read) value =
    if passes config number read value
    then item_place number more (read ++ (item_field config number read).value value ∷ [])
    else begin Refusing

-- A call is open at every place except `Closed`.
abbrev pub is_open : Place → Bool
is_open Closed = false
is_open _ = true

-- The access of the step at a place, and its marks.
abbrev pub access_at : EndConfig → Place → Access
access_at config place = (step_at config place 0).access

abbrev pub marks_at : EndConfig → Place → (value : ℕ) → List Mark
marks_at config place value = (step_at config place value).marks
