-- The places of a call: the state of an end between two steps, as data, and the part of the call
-- that is left there.
use Rattle.std.specs.Prelude.{ℕ, zero, suc, ◌≡◌, ◌+◌, ◌-◌, ◌/◌, ◌%◌, ◌==◌, Bool, true, false, if◌then◌else◌, List, [], ◌∷◌, ◌++◌, length}
use Rattle.link_handshake.specs.declared.Move.{Move}
use Rattle.link_handshake.specs.declared.Move.TheVariants.{Stay, Set, ClearThenSet}
use Rattle.link_handshake.specs.HandshakeState.{HandshakeState, move_of}
use Rattle.split_ring.specs.declared.steps.Access.{Access}
use Rattle.split_ring.specs.declared.steps.Access.TheVariants as access
use Rattle.split_ring.specs.Layout.{has_events, word_offset, DescAddress, DescLength, DescFlags, AvailIndex, AvailEntry, UsedIndex, UsedId, UsedLength, AvailEvent}
use Rattle.split_ring.specs.Spelling.{low_half, high_half, desc_flags}
use Rattle.split_ring.specs.Ranges.{is_avail_entry, is_desc_address, is_desc_length, is_avail_index, is_desc_flags, is_used_index, is_used_id}
use Rattle.call_grammar.specs.Steps.{Mark, Over, Accept, Deliver, Return, Done, Down, Step, step_of}
use Rattle.call_grammar.specs.Trees.{CallTree, Ended, Reads, Goes}
use Rattle.call_grammar.specs.Ends.{End}
use Rattle.call_grammar.specs.Words.{index_word, address_of, words_for, frame_word, frame_in}
use Rattle.call_grammar.specs.Ticks.{EndConfig, clear, set_state, other_state, tick_marks, after_tick}
use Rattle.call_grammar.specs.Offers.{PendingOffer, start_at, frame_fits, descriptor_of, avail_entry_of, avail_entry_value, ring_doorbell, wants_doorbell, avail_event_marks, read_avail_event, write_avail_index, write_avail_entry, write_desc_flags, write_desc_length, write_desc_address_high, write_desc_address_low, write_frame_words, used_id_marks, read_used_ids, returned_by, used_index_marks, offer}
use Rattle.call_grammar.specs.Polls.{entry_in, entry_marks, address_marks, length_marks, flags_marks, write_used_index, write_used_length, write_used_id, read_words, read_flags, read_length, read_high, read_low, item, ring_after_poll, items, published_by, is_last, avail_index_marks, write_avail_event, read_avail_index, poll}
use Rattle.call_grammar.specs.Calls.{Call, Tick, Stop, Offer, Poll, in_run, pending_of, down, tree_of}

-- The place of a call, named after its next access:
-- - `Closed`: no call is open;
-- - of a Tick or a Stop: the read of the other's State, a write of 0 with `more` left, or a State
--   step;
-- - the State step of a refusal, or the step of a call that is down;
-- - of an Offer in the used ring: the read of the used index, or of an id with `more` left;
-- - of an Offer before the index: the write of a frame's word with `more` left, of a descriptor's
--   word, or of the available entry;
-- - of an Offer from the index on: the write of the available index, the read of the other's
--   avail_event, or the doorbell;
-- - of a Poll before an item: the read of the available index, the last one or not, or the write of
--   the own avail_event;
-- - of an item, with `more` items left: the read of its entry, address, length, flags or word, or a
--   write to the used ring;
-- - of a Poll at its end: the doorbell.
pub data Place : Type 0 where
  Closed : Place
  ReadingOtherState : (handshake : HandshakeState) → Place
  Clearing : (at more state : ℕ) → Place
  WritingState : (state : ℕ) → Place
  Refusing : Place
  NotInRun : Place
  ReadingUsedIndex : (pending : PendingOffer) (freed : ℕ) → Place
  ReadingUsedId : (pending : PendingOffer) (freed more : ℕ) → Place
  WritingFrameWord : (pending : PendingOffer) (at more : ℕ) → Place
  WritingDescAddressLow : (pending : PendingOffer) → Place
  WritingDescAddressHigh : (pending : PendingOffer) → Place
  WritingDescLength : (pending : PendingOffer) → Place
  WritingDescFlags : (pending : PendingOffer) → Place
  WritingAvailEntry : (pending : PendingOffer) → Place
  WritingAvailIndex : (pending : PendingOffer) → Place
  ReadingAvailEvent : (number : ℕ) → Place
  RingingOffer : Place
  ReadingAvailIndex : (taken : ℕ) (last : Bool) → Place
  WritingAvailEvent : (taken : ℕ) → Place
  ReadingAvailEntry : (number more : ℕ) → Place
  ReadingDescAddressLow : (number more entry : ℕ) → Place
  ReadingDescAddressHigh : (number more entry low : ℕ) → Place
  ReadingDescLength : (number more entry address : ℕ) → Place
  ReadingDescFlags : (number more entry address bytes : ℕ) → Place
  ReadingFrameWord : (number more entry address bytes : ℕ) (read : List ℕ) (words : ℕ) → Place
  WritingUsedId : (number more entry : ℕ) → Place
  WritingUsedLength : (number more : ℕ) → Place
  WritingUsedIndex : (number more : ℕ) → Place
  RingingPoll : Place

-- The part of a call that is left at its place.
abbrev pub remaining : EndConfig → Place → CallTree
remaining config Closed = Ended
remaining config (ReadingOtherState handshake) =
    Reads (other_state config) (λ value. tick_marks value (move_of handshake value)) (λ value. after_tick config (move_of handshake value))
remaining config (Clearing at more state) = clear at (suc more) (set_state state)
remaining config (WritingState state) = set_state state
remaining config Refusing = set_state 0
remaining config NotInRun = down
remaining config (ReadingUsedIndex pending freed) = offer config pending freed
remaining config (ReadingUsedId pending freed more) = read_used_ids config pending freed (suc more)
remaining config (WritingFrameWord pending at more) = write_frame_words config pending at (suc more)
remaining config (WritingDescAddressLow pending) = write_desc_address_low config pending
remaining config (WritingDescAddressHigh pending) = write_desc_address_high config pending
remaining config (WritingDescLength pending) = write_desc_length config pending
remaining config (WritingDescFlags pending) = write_desc_flags config pending
remaining config (WritingAvailEntry pending) = write_avail_entry config pending
remaining config (WritingAvailIndex pending) = write_avail_index config pending
remaining config (ReadingAvailEvent number) = read_avail_event config number
remaining config RingingOffer = ring_doorbell config
remaining config (ReadingAvailIndex taken last) = poll config taken last
remaining config (WritingAvailEvent taken) = write_avail_event config taken (read_avail_index config taken true Ended)
remaining config (ReadingAvailEntry number more) = item config number (items config (number + 1) more)
remaining config (ReadingDescAddressLow number more entry) = read_low config number entry (items config (number + 1) more)
remaining config (ReadingDescAddressHigh number more entry low) = read_high config number entry low (items config (number + 1) more)
remaining config (ReadingDescLength number more entry address) = read_length config number entry address (items config (number + 1) more)
remaining config (ReadingDescFlags number more entry address bytes) = read_flags config number entry address bytes (items config (number + 1) more)
remaining config (ReadingFrameWord number more entry address bytes read words) = read_words config number entry address bytes read (suc words) (items config (number + 1) more)
remaining config (WritingUsedId number more entry) = write_used_id config number entry (items config (number + 1) more)
remaining config (WritingUsedLength number more) = write_used_length config number (items config (number + 1) more)
remaining config (WritingUsedIndex number more) = write_used_index config number (items config (number + 1) more)
remaining config RingingPoll = ring_after_poll config

-- The next places

abbrev pub clear_place : (at count state : ℕ) → Place
clear_place at zero state = WritingState state
clear_place at (suc more) state = Clearing at more state

abbrev pub tick_place : EndConfig → Move → Place
tick_place config Stay = Closed
tick_place config (Set state) = WritingState state
tick_place config (ClearThenSet state) = clear_place config.own config.words state

abbrev pub fill_place : PendingOffer → (at count : ℕ) → Place
fill_place pending at zero = WritingDescAddressLow pending
fill_place pending at (suc more) = WritingFrameWord pending at more

abbrev pub ids_place : EndConfig → PendingOffer → (freed count : ℕ) → Place
ids_place config pending freed zero = if frame_fits config pending freed then fill_place pending 0 (words_for (length pending.frame)) else Closed
ids_place config pending freed (suc more) = ReadingUsedId pending freed more

-- The place after the write of the index: the notification of the other peer.
abbrev pub notify_place : EndConfig → ℕ → Place
notify_place config number = if has_events config.sizes then ReadingAvailEvent number else RingingOffer

-- A read of the available index that finds no frame ends the poll if it is the last one.
abbrev pub none_place : (taken : ℕ) (last : Bool) → Place
none_place taken last = if last then Closed else WritingAvailEvent taken

abbrev pub items_place : (number count : ℕ) → Place
items_place number zero = RingingPoll
items_place number (suc more) = ReadingAvailEntry number more

abbrev pub words_place : (number more entry address bytes : ℕ) → List ℕ → ℕ → Place
words_place number more entry address bytes read zero = WritingUsedId number more entry
words_place number more entry address bytes read (suc words) = ReadingFrameWord number more entry address bytes read words

-- The place at which an end begins a call.
abbrev pub first_place : EndConfig → End → Call → Place
first_place config end Tick = ReadingOtherState end.handshake
first_place config end Stop = WritingState 0
first_place config end (Offer frame) = if in_run end.handshake.phase then ReadingUsedIndex (pending_of config end frame) end.freed else NotInRun
first_place config end Poll = if in_run end.handshake.phase then ReadingAvailIndex (length end.delivered) (is_last config end.found_none) else NotInRun

-- The access of the step at a place.
abbrev pub access_at : EndConfig → Place → Access
access_at config Closed = access.Nothing
access_at config (ReadingOtherState handshake) = access.Read (other_state config)
access_at config (Clearing at more state) = access.Write at 0
access_at config (WritingState state) = access.State state
access_at config Refusing = access.State 0
access_at config NotInRun = access.Nothing
access_at config (ReadingUsedIndex pending freed) = access.Read (config.other_start + word_offset config.sizes UsedIndex)
access_at config (ReadingUsedId pending freed more) = access.Read (config.other_start + word_offset config.sizes (UsedId (avail_entry_of config freed)))
access_at config (WritingFrameWord pending at more) =
    access.Write (config.own + start_at config pending / 4 + at) (frame_word pending.frame at)
access_at config (WritingDescAddressLow pending) =
    access.Write (config.own + word_offset config.sizes (DescAddress (descriptor_of config pending.number))) (start_at config pending)
access_at config (WritingDescAddressHigh pending) = access.Write (config.own + word_offset config.sizes (DescAddress (descriptor_of config pending.number)) + 1) 0
access_at config (WritingDescLength pending) = access.Write (config.own + word_offset config.sizes (DescLength (descriptor_of config pending.number))) (length pending.frame)
access_at config (WritingDescFlags pending) = access.Write (config.own + word_offset config.sizes (DescFlags (descriptor_of config pending.number))) 0
access_at config (WritingAvailEntry pending) = access.Write (config.own + word_offset config.sizes (AvailEntry (avail_entry_of config pending.number))) (avail_entry_value config pending)
access_at config (WritingAvailIndex pending) = access.Write (config.own + word_offset config.sizes AvailIndex) (index_word (pending.number + 1))
access_at config (ReadingAvailEvent number) = access.Read (config.other_start + word_offset config.sizes AvailEvent)
access_at config RingingOffer = access.Ring config.other config.vector
access_at config (ReadingAvailIndex taken last) = access.Read (config.other_start + word_offset config.sizes AvailIndex)
access_at config (WritingAvailEvent taken) = access.Write (config.own + word_offset config.sizes AvailEvent) (taken % 65536)
access_at config (ReadingAvailEntry number more) = access.Read (config.other_start + word_offset config.sizes (AvailEntry (avail_entry_of config number)))
access_at config (ReadingDescAddressLow number more entry) = access.Read (config.other_start + word_offset config.sizes (DescAddress entry))
access_at config (ReadingDescAddressHigh number more entry low) = access.Read (config.other_start + word_offset config.sizes (DescAddress entry) + 1)
access_at config (ReadingDescLength number more entry address) = access.Read (config.other_start + word_offset config.sizes (DescLength entry))
access_at config (ReadingDescFlags number more entry address bytes) = access.Read (config.other_start + word_offset config.sizes (DescFlags entry))
access_at config (ReadingFrameWord number more entry address bytes read words) = access.Read (config.other_start + (address / 4 + length read))
access_at config (WritingUsedId number more entry) = access.Write (config.own + word_offset config.sizes (UsedId (avail_entry_of config number))) entry
access_at config (WritingUsedLength number more) = access.Write (config.own + word_offset config.sizes (UsedLength (avail_entry_of config number))) 1
access_at config (WritingUsedIndex number more) = access.Write (config.own + word_offset config.sizes UsedIndex) (index_word (number + 1))
access_at config RingingPoll = access.Ring config.other config.vector

-- The marks of the step at a place, if its read met `value`.
abbrev pub marks_at : EndConfig → Place → ℕ → List Mark
marks_at config (ReadingOtherState handshake) value = tick_marks value (move_of handshake value)
marks_at config (WritingState state) value = Over ∷ []
marks_at config Refusing value = Over ∷ []
marks_at config NotInRun value = Down ∷ []
marks_at config (ReadingUsedIndex pending freed) value = used_index_marks config pending freed value
marks_at config (ReadingUsedId pending freed more) value = used_id_marks config pending freed more value
marks_at config (WritingAvailIndex pending) value = Accept pending.frame ∷ []
marks_at config (ReadingAvailEvent number) value = avail_event_marks number value
marks_at config RingingOffer value = Over ∷ []
marks_at config (ReadingAvailIndex taken last) value = avail_index_marks config taken last value
marks_at config (ReadingAvailEntry number more) value = entry_marks config number value
marks_at config (ReadingDescAddressHigh number more entry low) value = address_marks config low value
marks_at config (ReadingDescLength number more entry address) value = length_marks config address value
marks_at config (ReadingDescFlags number more entry address bytes) value = flags_marks value
marks_at config (ReadingFrameWord number more entry address bytes read words) value = if words == 0 then Deliver (frame_in bytes (read ++ value ∷ [])) ∷ [] else []
marks_at config (WritingUsedIndex number more) value = Return ∷ []
marks_at config RingingPoll value = Done ∷ []
marks_at config place value = []

-- The next place, if the read at this place met `value`.
abbrev pub next_place : EndConfig → Place → ℕ → Place
next_place config Closed value = Closed
next_place config (ReadingOtherState handshake) value = tick_place config (move_of handshake value)
next_place config (Clearing at more state) value = clear_place (at + 1) more state
next_place config (WritingState state) value = Closed
next_place config Refusing value = Closed
next_place config NotInRun value = Closed
next_place config (ReadingUsedIndex pending freed) value =
    if is_used_index (freed % 65536) (high_half value) (pending.number - freed) then ids_place config pending freed (returned_by freed value) else Refusing
next_place config (ReadingUsedId pending freed more) value = if is_used_id (descriptor_of config freed) value then ids_place config pending (freed + 1) more else Refusing
next_place config (WritingFrameWord pending at more) value = fill_place pending (at + 1) more
next_place config (WritingDescAddressLow pending) value = WritingDescAddressHigh pending
next_place config (WritingDescAddressHigh pending) value = WritingDescLength pending
next_place config (WritingDescLength pending) value = WritingDescFlags pending
next_place config (WritingDescFlags pending) value = WritingAvailEntry pending
next_place config (WritingAvailEntry pending) value = WritingAvailIndex pending
next_place config (WritingAvailIndex pending) value = notify_place config pending.number
next_place config (ReadingAvailEvent number) value = if wants_doorbell (low_half value) number then RingingOffer else Closed
next_place config RingingOffer value = Closed
next_place config (ReadingAvailIndex taken last) value =
    if is_avail_index config.sizes (taken % 65536) (high_half value)
    then (if published_by taken value == 0 then none_place taken last else items_place taken (published_by taken value))
    else Refusing
next_place config (WritingAvailEvent taken) value = ReadingAvailIndex taken true
next_place config (ReadingAvailEntry number more) value =
    if is_avail_entry config.sizes (entry_in config number value) then ReadingDescAddressLow number more (entry_in config number value) else Refusing
next_place config (ReadingDescAddressLow number more entry) value = ReadingDescAddressHigh number more entry value
next_place config (ReadingDescAddressHigh number more entry low) value =
    if is_desc_address config.sizes (address_of low value) then ReadingDescLength number more entry (address_of low value) else Refusing
next_place config (ReadingDescLength number more entry address) value = if is_desc_length config.sizes address value then ReadingDescFlags number more entry address value else Refusing
next_place config (ReadingDescFlags number more entry address bytes) value =
    if is_desc_flags (desc_flags value) then words_place number more entry address bytes [] (words_for bytes) else Refusing
next_place config (ReadingFrameWord number more entry address bytes read words) value =
    words_place number more entry address bytes (read ++ value ∷ []) words
next_place config (WritingUsedId number more entry) value = WritingUsedLength number more
next_place config (WritingUsedLength number more) value = WritingUsedIndex number more
next_place config (WritingUsedIndex number more) value = items_place (number + 1) more
next_place config RingingPoll value = Closed

-- The step at a place that meets `value`.
abbrev pub step_at : EndConfig → Place → ℕ → Step
step_at config place value = step_of (access_at config place) value (marks_at config place value)

-- A call is open at every place except `Closed`.
abbrev pub is_open : Place → Bool
is_open Closed = false
is_open _ = true

-- A call begins at its first place. Its next steps are exactly the steps at its place, for any
-- value met, and each leads to the next place.
pub record PlacesFollowTrees : Type 0 where
  pub begins : (config : EndConfig) (end : End) (call : Call) → remaining config (first_place config end call) ≡ tree_of config end call
  pub goes : (config : EndConfig) (place : Place) (step : Step) (left : CallTree) → Goes (remaining config place) step left →
      (value : ℕ) × (step ≡ step_at config place value) × (left ≡ remaining config (next_place config place value))
  pub comes : (config : EndConfig) (place : Place) (value : ℕ) → is_open place ≡ true →
      Goes (remaining config place) (step_at config place value) (remaining config (next_place config place value))
