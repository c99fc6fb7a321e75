-- An offer in RUN, as a tree and as a table of lists: a peer frees the frames that were returned,
-- and publishes a frame.
--
-- Source: VIRTIO 1.1, section 2.6.13 (supplying buffers to the device). Profile: the order of
-- accesses, one each step, and the limit of frames in flight.
use Rattle.std.specs.Prelude.{ℕ, zero, suc, ◌≡◌, ◌+◌, ◌-◌, ◌/◌, ◌%◌, ◌<◌, ◌==◌, Bool, true, false, ◌⊎◌, if◌then◌else◌, List, [], ◌∷◌, ◌++◌, length}
use Rattle.ivs_base.specs.Numbers.{distance}
use Rattle.split_ring.specs.declared.ranges.FieldName.{FieldName}
use Rattle.split_ring.specs.declared.ranges.FieldName.TheVariants as field_name
use Rattle.split_ring.specs.declared.steps.Access.TheVariants.{Read, Write, Ring}
use Rattle.split_ring.specs.Layout.{has_events, size_of, limit_of, word_offset, DescAddress, DescLength, DescFlags, AvailIndex, AvailEntry, UsedIndex, UsedId, AvailEvent}
use Rattle.split_ring.specs.Frames.{start_of, has_room}
use Rattle.split_ring.specs.Spelling.{low_half, high_half}
use Rattle.split_ring.specs.Ranges.{IsUsedIndex, IsUsedId, needs_event, is_used_index, is_used_id}
use Rattle.call_grammar.specs.Steps.{Mark, Reclaim, Full, Accept, Refuse, Over, Step, step_of}
use Rattle.call_grammar.specs.Trees.{CallTree, Ended, Does, Reads}
use Rattle.call_grammar.specs.Ticks.{EndConfig, set_state, state_step}
use Rattle.call_grammar.specs.Words.{index_word, with_entry, words_for, frame_word}

-- A pending offer: the frame and its number in the session, and the lengths of the session's frames
-- up to it, by their numbers. The last field is the last value that the end wrote to the word of
-- the frame's entry.
pub record PendingOffer : Type 0 where
  pub frame : List ℕ
  pub number : ℕ
  pub lengths : ℕ → ℕ
  pub neighbour_word : ℕ

-- The descriptor of the frame with this number, and the position of its entry in the available
-- ring.
abbrev pub descriptor_of : EndConfig → ℕ → ℕ
descriptor_of config number = number % limit_of config.sizes

abbrev pub avail_entry_of : EndConfig → ℕ → ℕ
avail_entry_of config number = number % size_of config.sizes

-- A value outside its field's range is marked with the field and the value.
abbrev pub refusal : FieldName → ℕ → List Mark
refusal field value = Refuse record { field = field; value = value } ∷ []

-- The byte of the section at which the frame starts.
abbrev pub start_at : EndConfig → PendingOffer → ℕ
start_at config pending = start_of config.sizes pending.lengths pending.number

-- The frame fits after `freed` frames were freed.
abbrev pub frame_fits : EndConfig → PendingOffer → ℕ → Bool
frame_fits config pending freed = has_room config.sizes pending.lengths freed pending.number

-- An offer is over if its frame doesn't fit.
abbrev pub full_marks : EndConfig → PendingOffer → ℕ → List Mark
full_marks config pending freed = if frame_fits config pending freed then [] else Full ∷ []

-- The tree of an offer, from its end backwards

-- The doorbell of the other peer.
abbrev pub ring_doorbell : EndConfig → CallTree
ring_doorbell config = Does (Ring config.other config.vector) (Over ∷ []) Ended

-- An event index wants a doorbell for the frame with this number.
abbrev pub wants_doorbell : (event number : ℕ) → Bool
wants_doorbell event number = needs_event event ((number + 1) % 65536) (number % 65536)

-- The marks of the read of the other's avail_event, in the low half of its word: the offer is over
-- if it wants no doorbell.
abbrev pub avail_event_marks : (number value : ℕ) → List Mark
avail_event_marks number value = if wants_doorbell (low_half value) number then [] else Over ∷ []

-- The read of the other's avail_event, and the doorbell if it wants one for this frame.
abbrev pub read_avail_event : EndConfig → ℕ → CallTree
read_avail_event config number =
    Reads (config.other_start + word_offset config.sizes AvailEvent)
    (λ value. avail_event_marks number value)
    (λ value. if wants_doorbell (low_half value) number then ring_doorbell config else Ended)

-- The notification of the other peer for this frame: in a link with events the doorbell rings only
-- if the other's avail_event wants it.
abbrev pub notify : EndConfig → ℕ → CallTree
notify config number = if has_events config.sizes then read_avail_event config number else ring_doorbell config

-- The write of the available index, which accepts the frame.
abbrev pub write_avail_index : EndConfig → PendingOffer → CallTree
write_avail_index config pending =
    Does (Write (config.own + word_offset config.sizes AvailIndex) (index_word (pending.number + 1))) (Accept pending.frame ∷ []) (notify config pending.number)

-- The word with the available entry, which names the descriptor, and the neighbouring entry.
abbrev pub avail_entry_value : EndConfig → PendingOffer → ℕ
avail_entry_value config pending = with_entry (avail_entry_of config pending.number) pending.neighbour_word (descriptor_of config pending.number)

-- The write of the available entry.
abbrev pub write_avail_entry : EndConfig → PendingOffer → CallTree
write_avail_entry config pending = Does (Write (config.own + word_offset config.sizes (AvailEntry (avail_entry_of config pending.number))) (avail_entry_value config pending)) [] (write_avail_index config pending)

-- The writes of the descriptor's four words: the address, low and high, the length, and flags 0.
abbrev pub write_desc_flags : EndConfig → PendingOffer → CallTree
write_desc_flags config pending = Does (Write (config.own + word_offset config.sizes (DescFlags (descriptor_of config pending.number))) 0) [] (write_avail_entry config pending)

abbrev pub write_desc_length : EndConfig → PendingOffer → CallTree
write_desc_length config pending =
    Does (Write (config.own + word_offset config.sizes (DescLength (descriptor_of config pending.number))) (length pending.frame)) [] (write_desc_flags config pending)

abbrev pub write_desc_address_high : EndConfig → PendingOffer → CallTree
write_desc_address_high config pending =
    Does (Write (config.own + word_offset config.sizes (DescAddress (descriptor_of config pending.number)) + 1) 0) [] (write_desc_length config pending)

abbrev pub write_desc_address_low : EndConfig → PendingOffer → CallTree
write_desc_address_low config pending =
    Does (Write (config.own + word_offset config.sizes (DescAddress (descriptor_of config pending.number))) (start_at config pending))
    [] (write_desc_address_high config pending)

-- The writes of the next words of the frame, from word `at` on, each to its place in the data area.
abbrev pub write_frame_words : EndConfig → PendingOffer → ℕ → ℕ → CallTree
write_frame_words config pending at zero = write_desc_address_low config pending
write_frame_words config pending at (suc more) =
    Does (Write (config.own + start_at config pending / 4 + at) (frame_word pending.frame at))
    [] (write_frame_words config pending (at + 1) more)

-- The offer after its reads: it is over if the frame doesn't fit.
abbrev pub after_ids : EndConfig → PendingOffer → ℕ → CallTree
after_ids config pending freed = if frame_fits config pending freed then write_frame_words config pending 0 (words_for (length pending.frame)) else Ended

-- The marks of the read of an id, with `more` ids left after it.
abbrev pub used_id_marks : EndConfig → PendingOffer → (freed more : ℕ) → ℕ → List Mark
used_id_marks config pending freed more value =
    if is_used_id (descriptor_of config freed) value
    then (if more == 0 then full_marks config pending (freed + 1) else [])
    else refusal field_name.UsedId value

-- The reads of the next ids of used elements, after `freed` frames were freed. Each id is the
-- descriptor of the oldest frame in flight, which the read frees.
abbrev pub read_used_ids : EndConfig → PendingOffer → ℕ → ℕ → CallTree
read_used_ids config pending freed zero = after_ids config pending freed
read_used_ids config pending freed (suc more) =
    Reads (config.other_start + word_offset config.sizes (UsedId (avail_entry_of config freed)))
    (λ value. used_id_marks config pending freed more value)
    (λ value. if is_used_id (descriptor_of config freed) value then read_used_ids config pending (freed + 1) more else set_state 0)

-- The number of frames that a used index returns.
abbrev pub returned_by : ℕ → ℕ → ℕ
returned_by freed value = distance (freed % 65536) (high_half value)

-- The marks of a used index that is `count` after the frames freed.
abbrev pub reclaim_marks : EndConfig → PendingOffer → ℕ → ℕ → List Mark
reclaim_marks config pending freed count = if count == 0 then Reclaim 0 ∷ full_marks config pending freed else Reclaim count ∷ []

-- The marks of the read of the used index.
abbrev pub used_index_marks : EndConfig → PendingOffer → ℕ → ℕ → List Mark
used_index_marks config pending freed value =
    if is_used_index (freed % 65536) (high_half value) (pending.number - freed)
    then reclaim_marks config pending freed (returned_by freed value)
    else refusal field_name.UsedIndex (high_half value)

-- An offer of this pending frame, after `freed` frames were freed.
abbrev pub offer : EndConfig → PendingOffer → ℕ → CallTree
offer config pending freed =
    Reads (config.other_start + word_offset config.sizes UsedIndex)
    (λ value. used_index_marks config pending freed value)
    (λ value. if is_used_index (freed % 65536) (high_half value) (pending.number - freed) then read_used_ids config pending freed (returned_by freed value) else set_state 0)

-- The table of finished offers

-- The read of the used index, with its marks.
abbrev pub used_index_step : EndConfig → ℕ → List Mark → Step
used_index_step config value marks = step_of (Read (config.other_start + word_offset config.sizes UsedIndex)) value marks

-- The read of the id of the used element with this number.
abbrev pub used_id_step : EndConfig → ℕ → ℕ → List Mark → Step
used_id_step config number value marks = step_of (Read (config.other_start + word_offset config.sizes (UsedId (avail_entry_of config number)))) value marks

-- The reads of the ids in order, from number `freed` on, the last with these marks.
abbrev pub used_id_steps : EndConfig → ℕ → ℕ → List Mark → List Step
used_id_steps config freed zero marks = []
used_id_steps config freed (suc more) marks = used_id_step config freed (descriptor_of config freed) (if more == 0 then marks else []) ∷ used_id_steps config (freed + 1) more marks

-- A refusal is a mark on its step. State 0 follows, and then the end of the call.
abbrev pub refused_steps : Step → List Step
refused_steps step = step ∷ state_step 0 ∷ []

abbrev pub write_step : ℕ → ℕ → List Mark → Step
write_step word written marks = step_of (Write word written) 0 marks

-- The writes of the words of the frame.
abbrev pub frame_write_steps : EndConfig → PendingOffer → ℕ → ℕ → List Step
frame_write_steps config pending at zero = []
frame_write_steps config pending at (suc more) =
    write_step (config.own + start_at config pending / 4 + at) (frame_word pending.frame at) [] ∷
    frame_write_steps config pending (at + 1) more

-- The writes of the descriptor, the available entry and the available index.
abbrev pub publish_steps : EndConfig → PendingOffer → List Step
publish_steps config pending =
    write_step (config.own + word_offset config.sizes (DescAddress (descriptor_of config pending.number))) (start_at config pending) [] ∷
    write_step (config.own + word_offset config.sizes (DescAddress (descriptor_of config pending.number)) + 1) 0 [] ∷
    write_step (config.own + word_offset config.sizes (DescLength (descriptor_of config pending.number))) (length pending.frame) [] ∷
    write_step (config.own + word_offset config.sizes (DescFlags (descriptor_of config pending.number))) 0 [] ∷
    write_step (config.own + word_offset config.sizes (AvailEntry (avail_entry_of config pending.number))) (avail_entry_value config pending) [] ∷
    write_step (config.own + word_offset config.sizes AvailIndex) (index_word (pending.number + 1)) (Accept pending.frame ∷ []) ∷ []

abbrev pub doorbell_step : EndConfig → List Mark → Step
doorbell_step config marks = step_of (Ring config.other config.vector) 0 marks

-- The read of the other's avail_event.
abbrev pub avail_event_read_step : EndConfig → (number value : ℕ) → Step
avail_event_read_step config number value = step_of (Read (config.other_start + word_offset config.sizes AvailEvent)) value (avail_event_marks number value)

-- The notification for this frame. In a link with events it is the read of the other's avail_event,
-- which met `value`, and the doorbell if that value wants one.
abbrev pub notify_steps : EndConfig → (number value : ℕ) → List Step
notify_steps config number value =
    if has_events config.sizes
    then avail_event_read_step config number value ∷ (if wants_doorbell (low_half value) number then doorbell_step config (Over ∷ []) ∷ [] else [])
    else doorbell_step config (Over ∷ []) ∷ []

-- The reads of an offer: the used index, and then the ids of the returned frames in order. The last
-- read has the mark `full` if the frame doesn't fit then.
abbrev pub reclaim_steps : EndConfig → PendingOffer → ℕ → ℕ → List Step
reclaim_steps config pending freed value =
    used_index_step config value (reclaim_marks config pending freed (returned_by freed value)) ∷
    used_id_steps config freed (returned_by freed value) (full_marks config pending (freed + returned_by freed value))

-- The used index is out of range.
pub record RefusesUsedIndex (config : EndConfig) (pending : PendingOffer) (freed : ℕ) (steps : List Step) : Type 0 where
  pub value : ℕ
  pub beyond : ¬ IsUsedIndex (freed % 65536) (high_half value) (pending.number - freed)
  pub steps_are : steps ≡ refused_steps (used_index_step config value (refusal field_name.UsedIndex (high_half value)))

-- The ids are in order up to one that isn't the oldest descriptor in flight.
pub record RefusesUsedId (config : EndConfig) (pending : PendingOffer) (freed : ℕ) (steps : List Step) : Type 0 where
  pub value : ℕ
  pub within : IsUsedIndex (freed % 65536) (high_half value) (pending.number - freed)
  pub passed : ℕ
  pub before : passed < returned_by freed value
  pub id : ℕ
  pub wrong : ¬ IsUsedId (descriptor_of config (freed + passed)) id
  pub steps_are : steps ≡ used_index_step config value (reclaim_marks config pending freed (returned_by freed value)) ∷
      (used_id_steps config freed passed [] ++ refused_steps (used_id_step config (freed + passed) id (refusal field_name.UsedId id)))

-- The frame doesn't fit.
pub record FindsFull (config : EndConfig) (pending : PendingOffer) (freed : ℕ) (steps : List Step) : Type 0 where
  pub value : ℕ
  pub within : IsUsedIndex (freed % 65536) (high_half value) (pending.number - freed)
  pub full : frame_fits config pending (freed + returned_by freed value) ≡ false
  pub steps_are : steps ≡ reclaim_steps config pending freed value

-- The frame is accepted.
pub record IsAccepted (config : EndConfig) (pending : PendingOffer) (freed : ℕ) (steps : List Step) : Type 0 where
  pub value : ℕ
  pub within : IsUsedIndex (freed % 65536) (high_half value) (pending.number - freed)
  pub room : frame_fits config pending (freed + returned_by freed value) ≡ true
  pub event : ℕ
  pub steps_are : steps ≡ reclaim_steps config pending freed value ++
      (frame_write_steps config pending 0 (words_for (length pending.frame)) ++ (publish_steps config pending ++ notify_steps config pending.number event))

-- A finished offer is one of these four lists.
abbrev pub IsOffer : EndConfig → PendingOffer → ℕ → List Step → Type 0
IsOffer config pending freed steps =
    RefusesUsedIndex config pending freed steps ⊎ (RefusesUsedId config pending freed steps ⊎ (FindsFull config pending freed steps ⊎ IsAccepted config pending freed steps))
