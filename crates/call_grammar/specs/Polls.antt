-- A poll in RUN, as a tree and as a table of lists. A peer delivers each frame that the other
-- published, once, and returns it.
--
-- Source: VIRTIO 1.1, section 2.6.8 (the used ring); profile for the order of accesses, one each
-- step, and the tests.
use Rattle.std.specs.Prelude.{ℕ, zero, suc, ◌≡◌, ◌≢◌, ◌+◌, ◌/◌, ◌%◌, ◌<◌, ◌==◌, Bool, true, false, ◌||◌, not, ◌⊎◌, if◌then◌else◌, List, [], ◌∷◌, ◌++◌, length}
use Rattle.ivs_base.specs.Numbers.{distance}
use Rattle.split_ring.specs.declared.ranges.FieldName.TheVariants as field_name
use Rattle.split_ring.specs.declared.steps.Access.TheVariants.{Read, Write, Ring}
use Rattle.split_ring.specs.Layout.{has_events, word_offset, DescAddress, DescLength, DescFlags, AvailIndex, AvailEntry, UsedIndex, UsedId, UsedLength, AvailEvent}
use Rattle.split_ring.specs.Spelling.{high_half, entry_half, desc_flags}
use Rattle.split_ring.specs.Ranges.{IsAvailIndex, IsAvailEntry, IsDescAddress, IsDescLength, IsDescFlags, is_avail_index, is_avail_entry, is_desc_address, is_desc_length, is_desc_flags}
use Rattle.call_grammar.specs.Steps.{Mark, Look, Deliver, Return, Done, Step, step_of}
use Rattle.call_grammar.specs.Trees.{CallTree, Ended, Does, Reads}
use Rattle.call_grammar.specs.Ticks.{EndConfig, set_state}
use Rattle.call_grammar.specs.Words.{index_word, address_of, words_for, frame_in}
use Rattle.call_grammar.specs.Offers.{avail_entry_of, refusal, refused_steps, write_step, doorbell_step}

-- The marks of the reads of an item: none, or the refusal

-- The available entry of the item with this number, from the word read.
abbrev pub entry_in : EndConfig → (number value : ℕ) → ℕ
entry_in config number value = entry_half (avail_entry_of config number) value

abbrev pub entry_marks : EndConfig → (number value : ℕ) → List Mark
entry_marks config number value = if is_avail_entry config.sizes (entry_in config number value) then [] else refusal field_name.AvailEntry (entry_in config number value)

abbrev pub address_marks : EndConfig → (low value : ℕ) → List Mark
address_marks config low value = if is_desc_address config.sizes (address_of low value) then [] else refusal field_name.DescAddress (address_of low value)

abbrev pub length_marks : EndConfig → (address value : ℕ) → List Mark
length_marks config address value = if is_desc_length config.sizes address value then [] else refusal field_name.DescLength value

abbrev pub flags_marks : ℕ → List Mark
flags_marks value = if is_desc_flags (desc_flags value) then [] else refusal field_name.DescFlags (desc_flags value)

-- The tree of a poll. Each part has its continuation as its last argument. Items and frames are
-- numbered in the session, and the entry of an item is at its number modulo the queue size.

-- The writes of the used element and then of the used index, which returns the item.
abbrev pub write_used_index : EndConfig → ℕ → CallTree → CallTree
write_used_index config number after = Does (Write (config.own + word_offset config.sizes UsedIndex) (index_word (number + 1))) (Return ∷ []) after

abbrev pub write_used_length : EndConfig → ℕ → CallTree → CallTree
write_used_length config number after = Does (Write (config.own + word_offset config.sizes (UsedLength (avail_entry_of config number))) 1) [] (write_used_index config number after)

abbrev pub write_used_id : EndConfig → (number entry : ℕ) → CallTree → CallTree
write_used_id config number entry after = Does (Write (config.own + word_offset config.sizes (UsedId (avail_entry_of config number))) entry) [] (write_used_length config number after)

-- The reads of the frame's next words after the words `read`. The last one delivers the frame.
abbrev pub read_words : EndConfig → (number entry address bytes : ℕ) → List ℕ → ℕ → CallTree → CallTree
read_words config number entry address bytes read zero after = write_used_id config number entry after
read_words config number entry address bytes read (suc more) after =
    Reads (config.other_start + (address / 4 + length read))
    (λ value. if more == 0 then Deliver (frame_in bytes (read ++ value ∷ [])) ∷ [] else [])
    (λ value. read_words config number entry address bytes (read ++ value ∷ []) more after)

-- The reads of the descriptor's flags, its length, its address and of the available entry, each
-- with its test.
abbrev pub read_flags : EndConfig → (number entry address bytes : ℕ) → CallTree → CallTree
read_flags config number entry address bytes after =
    Reads (config.other_start + word_offset config.sizes (DescFlags entry))
    (λ value. flags_marks value)
    (λ value. if is_desc_flags (desc_flags value) then read_words config number entry address bytes [] (words_for bytes) after else set_state 0)

abbrev pub read_length : EndConfig → (number entry address : ℕ) → CallTree → CallTree
read_length config number entry address after =
    Reads (config.other_start + word_offset config.sizes (DescLength entry))
    (λ value. length_marks config address value)
    (λ value. if is_desc_length config.sizes address value then read_flags config number entry address value after else set_state 0)

abbrev pub read_high : EndConfig → (number entry low : ℕ) → CallTree → CallTree
read_high config number entry low after =
    Reads (config.other_start + word_offset config.sizes (DescAddress entry) + 1)
    (λ value. address_marks config low value)
    (λ value. if is_desc_address config.sizes (address_of low value) then read_length config number entry (address_of low value) after else set_state 0)

abbrev pub read_low : EndConfig → (number entry : ℕ) → CallTree → CallTree
read_low config number entry after =
    Reads (config.other_start + word_offset config.sizes (DescAddress entry)) (λ value. []) (λ value. read_high config number entry value after)

abbrev pub item : EndConfig → ℕ → CallTree → CallTree
item config number after =
    Reads (config.other_start + word_offset config.sizes (AvailEntry (avail_entry_of config number)))
    (λ value. entry_marks config number value)
    (λ value. if is_avail_entry config.sizes (entry_in config number value) then read_low config number (entry_in config number value) after else set_state 0)

-- The doorbell of the other peer.
abbrev pub ring_after_poll : EndConfig → CallTree
ring_after_poll config = Does (Ring config.other config.vector) (Done ∷ []) Ended

-- The items from number `number` on, and then the doorbell.
abbrev pub items : EndConfig → ℕ → ℕ → CallTree
items config number zero = ring_after_poll config
items config number (suc more) = item config number (items config (number + 1) more)

-- The number of frames that an available index publishes.
abbrev pub published_by : ℕ → ℕ → ℕ
published_by taken value = distance (taken % 65536) (high_half value)

-- The first read of the available index is the poll's last if it finds no frame and avail_event
-- needs no write. The link has no events, or the session's last read also found no frame, so
-- avail_event already wants a doorbell for the next one.
abbrev pub is_last : EndConfig → (found_none : Bool) → Bool
is_last config found_none = not (has_events config.sizes) || found_none

-- The marks of an available index that is `count` after the frames delivered.
abbrev pub look_marks : (last : Bool) → ℕ → List Mark
look_marks last count = if count == 0 then (if last then Look 0 ∷ Done ∷ [] else Look 0 ∷ []) else Look count ∷ []

-- The marks of the read of the available index.
abbrev pub avail_index_marks : EndConfig → ℕ → (last : Bool) → ℕ → List Mark
avail_index_marks config taken last value =
    if is_avail_index config.sizes (taken % 65536) (high_half value)
    then look_marks last (published_by taken value)
    else refusal field_name.AvailIndex (high_half value)

-- The continuation of a read of the available index in range, with the continuation `none` if no
-- frame was published.
abbrev pub after_look : EndConfig → (taken value : ℕ) → CallTree → CallTree
after_look config taken value none = if published_by taken value == 0 then none else items config taken (published_by taken value)

-- A read of the available index after `taken` frames were delivered, and its continuation, which is
-- `none` if no frame was published.
abbrev pub read_avail_index : EndConfig → ℕ → (last : Bool) → CallTree → CallTree
read_avail_index config taken last none =
    Reads (config.other_start + word_offset config.sizes AvailIndex)
    (λ value. avail_index_marks config taken last value)
    (λ value. if is_avail_index config.sizes (taken % 65536) (high_half value) then after_look config taken value none else set_state 0)

-- The write of the own avail_event, which wants a doorbell for the next frame.
abbrev pub write_avail_event : EndConfig → ℕ → CallTree → CallTree
write_avail_event config taken after = Does (Write (config.own + word_offset config.sizes AvailEvent) (taken % 65536)) [] after

-- A poll after `taken` frames were delivered. If its first read of the available index isn't its
-- last and finds no frame, it writes avail_event and reads the index again.
abbrev pub poll : EndConfig → ℕ → (last : Bool) → CallTree
poll config taken true = read_avail_index config taken true Ended
poll config taken false = read_avail_index config taken false (write_avail_event config taken (read_avail_index config taken true Ended))

-- The table of finished polls

-- The values read for one item: the words of the entry, of the address (low and high), length and
-- flags, and of the frame.
pub record Item : Type 0 where
  pub entry_word : ℕ
  pub low : ℕ
  pub high : ℕ
  pub bytes : ℕ
  pub flags_word : ℕ
  pub words : List ℕ

-- The available entry of an item, and its address.
abbrev pub item_entry : EndConfig → ℕ → Item → ℕ
item_entry config number read = entry_in config number read.entry_word

abbrev pub item_address : Item → ℕ
item_address read = address_of read.low read.high

-- The reads of an item up to each of its tests, the last with these marks.
abbrev pub entry_step : EndConfig → ℕ → Item → List Mark → Step
entry_step config number read marks = step_of (Read (config.other_start + word_offset config.sizes (AvailEntry (avail_entry_of config number)))) read.entry_word marks

abbrev pub low_step : EndConfig → ℕ → Item → Step
low_step config number read = step_of (Read (config.other_start + word_offset config.sizes (DescAddress (item_entry config number read)))) read.low []

abbrev pub high_step : EndConfig → ℕ → Item → List Mark → Step
high_step config number read marks = step_of (Read (config.other_start + word_offset config.sizes (DescAddress (item_entry config number read)) + 1)) read.high marks

abbrev pub length_step : EndConfig → ℕ → Item → List Mark → Step
length_step config number read marks = step_of (Read (config.other_start + word_offset config.sizes (DescLength (item_entry config number read)))) read.bytes marks

abbrev pub flags_step : EndConfig → ℕ → Item → List Mark → Step
flags_step config number read marks = step_of (Read (config.other_start + word_offset config.sizes (DescFlags (item_entry config number read)))) read.flags_word marks

-- The reads of these words of a frame from word `at` on, the last with these marks.
abbrev pub word_steps : EndConfig → (address at : ℕ) → List ℕ → List Mark → List Step
word_steps config address at [] marks = []
word_steps config address at (word ∷ words) marks =
    step_of (Read (config.other_start + (address / 4 + at))) word (if length words == 0 then marks else []) ∷ word_steps config address (at + 1) words marks

abbrev pub return_steps : EndConfig → (number entry : ℕ) → List Step
return_steps config number entry =
    write_step (config.own + word_offset config.sizes (UsedId (avail_entry_of config number))) entry [] ∷
    write_step (config.own + word_offset config.sizes (UsedLength (avail_entry_of config number))) 1 [] ∷
    write_step (config.own + word_offset config.sizes UsedIndex) (index_word (number + 1)) (Return ∷ []) ∷ []

-- A valid item: each field is in range, and all words of its frame were read.
pub record IsValidItem (config : EndConfig) (number : ℕ) (read : Item) : Type 0 where
  pub entry : IsAvailEntry config.sizes (item_entry config number read)
  pub address : IsDescAddress config.sizes (item_address read)
  pub bytes : IsDescLength config.sizes (item_address read) read.bytes
  pub flags : IsDescFlags (desc_flags read.flags_word)
  pub words : length read.words ≡ words_for read.bytes

-- The steps of a valid item: each field is read once.
abbrev pub item_steps : EndConfig → ℕ → Item → List Step
item_steps config number read =
    entry_step config number read [] ∷ low_step config number read ∷ high_step config number read [] ∷ length_step config number read [] ∷
    flags_step config number read [] ∷
    (word_steps config (item_address read) 0 read.words (Deliver (frame_in read.bytes read.words) ∷ []) ++ return_steps config number (item_entry config number read))

-- The items from this number on are valid.
abbrev pub AreValidItems : EndConfig → ℕ → List Item → Type 0
AreValidItems config number [] = Unit {0}
AreValidItems config number (read ∷ reads) = IsValidItem config number read × AreValidItems config (number + 1) reads

abbrev pub items_steps : EndConfig → ℕ → List Item → List Step
items_steps config number [] = []
items_steps config number (read ∷ reads) = item_steps config number read ++ items_steps config (number + 1) reads

-- An item that is refused at one of its four tests, after the tests before it passed. Its later
-- values don't matter.

-- The steps up to each test, the last one with the refusal.
abbrev pub entry_refused : EndConfig → ℕ → Item → List Step
entry_refused config number read = refused_steps (entry_step config number read (refusal field_name.AvailEntry (item_entry config number read)))

abbrev pub address_refused : EndConfig → ℕ → Item → List Step
address_refused config number read =
    entry_step config number read [] ∷ low_step config number read ∷
    refused_steps (high_step config number read (refusal field_name.DescAddress (item_address read)))

abbrev pub length_refused : EndConfig → ℕ → Item → List Step
length_refused config number read =
    entry_step config number read [] ∷ low_step config number read ∷ high_step config number read [] ∷
    refused_steps (length_step config number read (refusal field_name.DescLength read.bytes))

abbrev pub flags_refused : EndConfig → ℕ → Item → List Step
flags_refused config number read =
    entry_step config number read [] ∷ low_step config number read ∷ high_step config number read [] ∷ length_step config number read [] ∷
    refused_steps (flags_step config number read (refusal field_name.DescFlags (desc_flags read.flags_word)))

abbrev pub IsRefusedItem : EndConfig → ℕ → Item → List Step → Type 0
IsRefusedItem config number read steps =
    ((¬ IsAvailEntry config.sizes (item_entry config number read)) × (steps ≡ entry_refused config number read)) ⊎
    ((IsAvailEntry config.sizes (item_entry config number read) × (¬ IsDescAddress config.sizes (item_address read)) ×
    (steps ≡ address_refused config number read)) ⊎
    ((IsAvailEntry config.sizes (item_entry config number read) × IsDescAddress config.sizes (item_address read) ×
    (¬ IsDescLength config.sizes (item_address read) read.bytes) × (steps ≡ length_refused config number read)) ⊎
    (IsAvailEntry config.sizes (item_entry config number read) × IsDescAddress config.sizes (item_address read) ×
    IsDescLength config.sizes (item_address read) read.bytes × (¬ IsDescFlags (desc_flags read.flags_word)) ×
    (steps ≡ flags_refused config number read))))

-- The read of the available index, with its marks.
abbrev pub avail_index_step : EndConfig → ℕ → List Mark → Step
avail_index_step config value marks = step_of (Read (config.other_start + word_offset config.sizes AvailIndex)) value marks

-- The available index is out of range.
pub record RefusesAvailIndex (config : EndConfig) (taken : ℕ) (steps : List Step) : Type 0 where
  pub value : ℕ
  pub beyond : ¬ IsAvailIndex config.sizes (taken % 65536) (high_half value)
  pub steps_are : steps ≡ refused_steps (avail_index_step config value (refusal field_name.AvailIndex (high_half value)))

-- No frame was published, and the poll is done.
pub record FindsNothing (config : EndConfig) (taken : ℕ) (steps : List Step) : Type 0 where
  pub value : ℕ
  pub none : published_by taken value ≡ 0
  pub steps_are : steps ≡ avail_index_step config value (Look 0 ∷ Done ∷ []) ∷ []

-- All published items are valid, and the doorbell follows.
pub record TakesAll (config : EndConfig) (taken : ℕ) (steps : List Step) : Type 0 where
  pub value : ℕ
  pub within : IsAvailIndex config.sizes (taken % 65536) (high_half value)
  pub some : published_by taken value ≢ 0
  pub reads : List Item
  pub all : length reads ≡ published_by taken value
  pub good : AreValidItems config taken reads
  pub steps_are : steps ≡ avail_index_step config value (Look (published_by taken value) ∷ []) ∷
      (items_steps config taken reads ++ doorbell_step config (Done ∷ []) ∷ [])

-- Valid items, and then an item that is refused.
pub record RefusesItem (config : EndConfig) (taken : ℕ) (steps : List Step) : Type 0 where
  pub value : ℕ
  pub within : IsAvailIndex config.sizes (taken % 65536) (high_half value)
  pub reads : List Item
  pub before : length reads < published_by taken value
  pub good : AreValidItems config taken reads
  pub last : Item
  pub last_steps : List Step
  pub refused : IsRefusedItem config (taken + length reads) last last_steps
  pub steps_are : steps ≡ avail_index_step config value (Look (published_by taken value) ∷ []) ∷ (items_steps config taken reads ++ last_steps)

-- A read of the available index and the steps after it are one of these four lists. One of them is
-- the list of a read that finds no frame.
abbrev pub IsLook : EndConfig → ℕ → (FindsNone : List Step → Type 0) → List Step → Type 0
IsLook config taken FindsNone steps = RefusesAvailIndex config taken steps ⊎ (FindsNone steps ⊎ (TakesAll config taken steps ⊎ RefusesItem config taken steps))

-- The write of the own avail_event.
abbrev pub avail_event_write_step : EndConfig → ℕ → Step
avail_event_write_step config taken = write_step (config.own + word_offset config.sizes AvailEvent) (taken % 65536) []

-- No frame was published, avail_event is written, and the available index is read a last time.
pub record LooksAgain (config : EndConfig) (taken : ℕ) (steps : List Step) : Type 0 where
  pub value : ℕ
  pub none : published_by taken value ≡ 0
  pub rest : List Step
  pub again : IsLook config taken (FindsNothing config taken) rest
  pub steps_are : steps ≡ avail_index_step config value (Look 0 ∷ []) ∷ avail_event_write_step config taken ∷ rest

-- A finished poll. `last` says whether its first read of the available index is its last if it
-- finds no frame.
abbrev pub IsPoll : EndConfig → ℕ → (last : Bool) → List Step → Type 0
IsPoll config taken true steps = IsLook config taken (FindsNothing config taken) steps
IsPoll config taken false steps = IsLook config taken (LooksAgain config taken) steps
