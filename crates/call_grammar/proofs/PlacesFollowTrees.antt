-- The places of a call follow its tree.
use Rattle.std.proofs.Common.{◌≡◌, ℕ, zero, suc, ◌+◌, ◌-◌, Bool, true, false, List, [], ◌∷◌, ◌++◌, length, refl, sym, subst, ◌∙◌}
use Rattle.std.specs.Prelude.{◌==◌, if◌then◌else◌, ◌%◌}
use Rattle.link_handshake.specs.declared.Move.{Move}
use Rattle.link_handshake.specs.declared.Move.TheVariants.{Stay, Set, ClearThenSet}
use Rattle.link_handshake.specs.HandshakeState.{move_of}
use Rattle.split_ring.specs.Layout.{has_events}
use Rattle.split_ring.specs.Spelling.{low_half, entry_half, high_half, desc_flags}
use Rattle.split_ring.specs.Ranges.{is_avail_entry, is_desc_address, is_desc_length, is_avail_index, is_desc_flags, is_used_index, is_used_id}
use Rattle.call_grammar.specs.Steps.{Step}
use Rattle.call_grammar.specs.Trees.{CallTree, Ended, Goes}
use Rattle.call_grammar.specs.Ends.{End}
use Rattle.call_grammar.specs.Words.{address_of, words_for}
use Rattle.call_grammar.specs.Ticks.{EndConfig, clear, set_state, after_tick}
use Rattle.call_grammar.specs.Offers.{PendingOffer, frame_fits, descriptor_of, avail_entry_of, wants_doorbell, notify, write_frame_words, read_used_ids, returned_by}
use Rattle.call_grammar.specs.Polls.{read_words, items, published_by, is_last, write_avail_event, read_avail_index, poll}
use Rattle.call_grammar.specs.Calls.{Call, Tick, Stop, Offer, Poll, in_run, pending_of, tree_of}
use Rattle.call_grammar.specs.Places.{Place, Closed, ReadingOtherState, Clearing, WritingState, Refusing, NotInRun, ReadingUsedIndex, ReadingUsedId, WritingFrameWord, WritingDescAddressLow, WritingDescAddressHigh, WritingDescLength, WritingDescFlags, WritingAvailEntry, WritingAvailIndex, ReadingAvailEvent, RingingOffer, ReadingAvailIndex, WritingAvailEvent, ReadingAvailEntry, ReadingDescAddressLow, ReadingDescAddressHigh, ReadingDescLength, ReadingDescFlags, ReadingFrameWord, WritingUsedId, WritingUsedLength, WritingUsedIndex, RingingPoll, remaining, clear_place, tick_place, fill_place, ids_place, notify_place, none_place, items_place, words_place, first_place, next_place, step_at, is_open, PlacesFollowTrees}

-- The rest of a call at a choice of places is the choice of the rests.
chosen : (config : EndConfig) (b : Bool) (x y : Place) → remaining config (if b then x else y) ≡ (if b then remaining config x else remaining config y)
chosen config true x y = refl
chosen config false x y = refl

both : (b : Bool) (t t' u u' : CallTree) → t ≡ t' → u ≡ u' → (if b then t else u) ≡ (if b then t' else u')
both true t t' u u' e f = e
both false t t' u u' e f = f

clear_left : (config : EndConfig) (at count state : ℕ) → remaining config (clear_place at count state) ≡ clear at count (set_state state)
clear_left config at zero state = refl
clear_left config at (suc more) state = refl

tick_left : (config : EndConfig) (move : Move) → remaining config (tick_place config move) ≡ after_tick config move
tick_left config Stay = refl
tick_left config (Set state) = refl
tick_left config (ClearThenSet state) = clear_left config config.own config.words state

fill_left : (config : EndConfig) (pending : PendingOffer) (at count : ℕ) → remaining config (fill_place pending at count) ≡ write_frame_words config pending at count
fill_left config pending at zero = refl
fill_left config pending at (suc more) = refl

ids_left : (config : EndConfig) (pending : PendingOffer) (freed count : ℕ) → remaining config (ids_place config pending freed count) ≡ read_used_ids config pending freed count
ids_left config pending freed zero = chosen config (frame_fits config pending freed) (fill_place pending 0 (words_for (length pending.frame))) Closed ∙
    both (frame_fits config pending freed) _ _ Ended Ended (fill_left config pending 0 (words_for (length pending.frame))) refl
ids_left config pending freed (suc more) = refl

notify_remains : (config : EndConfig) (number : ℕ) → remaining config (notify_place config number) ≡ notify config number
notify_remains config number = chosen config (has_events config.sizes) (ReadingAvailEvent number) RingingOffer

-- The rest of a poll after a read of the available index that finds no frame.
abbrev after_none : EndConfig → ℕ → (last : Bool) → CallTree
after_none config taken true = Ended
after_none config taken false = write_avail_event config taken (read_avail_index config taken true Ended)

none_left : (config : EndConfig) (taken : ℕ) (last : Bool) → remaining config (none_place taken last) ≡ after_none config taken last
none_left config taken true = refl
none_left config taken false = refl

poll_is : (config : EndConfig) (taken : ℕ) (last : Bool) → poll config taken last ≡ read_avail_index config taken last (after_none config taken last)
poll_is config taken true = refl
poll_is config taken false = refl

items_left : (config : EndConfig) (number count : ℕ) → remaining config (items_place number count) ≡ items config number count
items_left config number zero = refl
items_left config number (suc more) = refl

words_left : (config : EndConfig) (number more entry address bytes : ℕ) (read : List ℕ) (words : ℕ) → remaining config (words_place number more entry address bytes read words) ≡ read_words config number entry address bytes read words (items config (number + 1) more)
words_left config number more entry address bytes read zero = refl
words_left config number more entry address bytes read (suc words) = refl

-- A choice between the rest of a call and a refusal.
going_on : (config : EndConfig) (b : Bool) (x : Place) (t : CallTree) → remaining config x ≡ t → (if b then t else set_state 0) ≡ remaining config (if b then x else Refusing)
going_on config b x t e = sym (chosen config b x Refusing ∙ both b (remaining config x) t (set_state 0) (set_state 0) e refl)

-- The rest of a poll after a read of the available index in range.
look_left : (config : EndConfig) (taken : ℕ) (last : Bool) (value : ℕ) → remaining config (if published_by taken value == 0 then none_place taken last else items_place taken (published_by taken value)) ≡
    (if published_by taken value == 0 then after_none config taken last else items config taken (published_by taken value))
look_left config taken last value = chosen config (published_by taken value == 0) (none_place taken last) (items_place taken (published_by taken value)) ∙
    both (published_by taken value == 0) _ (after_none config taken last) _ _ (none_left config taken last) (items_left config taken (published_by taken value))

look_goes : (config : EndConfig) (taken : ℕ) (last : Bool) (step : Step) (left : CallTree) → Goes (read_avail_index config taken last (after_none config taken last)) step left →
    (value : ℕ) × (step ≡ step_at config (ReadingAvailIndex taken last) value) × (left ≡ remaining config (next_place config (ReadingAvailIndex taken last) value))
look_goes config taken last step left g = (
  g.0,
  g.1,
  g.2 ∙ going_on config (is_avail_index config.sizes (taken % 65536) (high_half g.0)) (if published_by taken g.0 == 0 then none_place taken last else items_place taken (published_by taken g.0)) _ (look_left config taken last g.0),
)

look_comes : (config : EndConfig) (taken : ℕ) (last : Bool) (value : ℕ) → Goes (read_avail_index config taken last (after_none config taken last)) (step_at config (ReadingAvailIndex taken last) value) (remaining config (next_place config (ReadingAvailIndex taken last) value))
look_comes config taken last value = (
  value,
  refl,
  sym (going_on config (is_avail_index config.sizes (taken % 65536) (high_half value)) (if published_by taken value == 0 then none_place taken last else items_place taken (published_by taken value)) _ (look_left config taken last value)),
)

goes_to_place : (config : EndConfig) (place : Place) (step : Step) (left : CallTree) → Goes (remaining config place) step left → (value : ℕ) × (step ≡ step_at config place value) × (left ≡ remaining config (next_place config place value))
goes_to_place config Closed step left g = absurd g
goes_to_place config (ReadingOtherState handshake) step left g = (g.0, g.1, g.2 ∙ sym (tick_left config (move_of handshake g.0)))
goes_to_place config (Clearing at more state) step left g = (0, g.0, g.1 ∙ sym (clear_left config (at + 1) more state))
goes_to_place config (WritingState state) step left g = (0, g.0, g.1)
goes_to_place config Refusing step left g = (0, g.0, g.1)
goes_to_place config NotInRun step left g = (0, g.0, g.1)
goes_to_place config (ReadingUsedIndex pending freed) step left g = (g.0, g.1, g.2 ∙ going_on config (is_used_index (freed % 65536) (high_half g.0) (pending.number - freed)) (ids_place config pending freed (returned_by freed g.0)) _ (ids_left config pending freed (returned_by freed g.0)))
goes_to_place config (ReadingUsedId pending freed more) step left g = (g.0, g.1, g.2 ∙ going_on config (is_used_id (descriptor_of config freed) g.0) (ids_place config pending (freed + 1) more) _ (ids_left config pending (freed + 1) more))
goes_to_place config (WritingFrameWord pending at more) step left g = (0, g.0, g.1 ∙ sym (fill_left config pending (at + 1) more))
goes_to_place config (WritingDescAddressLow pending) step left g = (0, g.0, g.1)
goes_to_place config (WritingDescAddressHigh pending) step left g = (0, g.0, g.1)
goes_to_place config (WritingDescLength pending) step left g = (0, g.0, g.1)
goes_to_place config (WritingDescFlags pending) step left g = (0, g.0, g.1)
goes_to_place config (WritingAvailEntry pending) step left g = (0, g.0, g.1)
goes_to_place config (WritingAvailIndex pending) step left g = (0, g.0, g.1 ∙ sym (notify_remains config pending.number))
goes_to_place config (ReadingAvailEvent number) step left g = (g.0, g.1, g.2 ∙ sym (chosen config (wants_doorbell (low_half g.0) number) RingingOffer Closed))
goes_to_place config RingingOffer step left g = (0, g.0, g.1)
goes_to_place config (ReadingAvailIndex taken last) step left g = look_goes config taken last step left (subst (λ (t : CallTree). Goes t step left) (poll_is config taken last) g)
goes_to_place config (WritingAvailEvent taken) step left g = (0, g.0, g.1)
goes_to_place config (ReadingAvailEntry number more) step left g = (g.0, g.1, g.2 ∙ going_on config (is_avail_entry config.sizes (entry_half (avail_entry_of config number) g.0)) (ReadingDescAddressLow number more (entry_half (avail_entry_of config number) g.0)) _ refl)
goes_to_place config (ReadingDescAddressLow number more entry) step left g = g
goes_to_place config (ReadingDescAddressHigh number more entry low) step left g = (g.0, g.1, g.2 ∙ going_on config (is_desc_address config.sizes (address_of low g.0)) (ReadingDescLength number more entry (address_of low g.0)) _ refl)
goes_to_place config (ReadingDescLength number more entry address) step left g = (g.0, g.1, g.2 ∙ going_on config (is_desc_length config.sizes address g.0) (ReadingDescFlags number more entry address g.0) _ refl)
goes_to_place config (ReadingDescFlags number more entry address bytes) step left g = (g.0, g.1, g.2 ∙ going_on config (is_desc_flags (desc_flags g.0)) (words_place number more entry address bytes [] (words_for bytes)) _ (words_left config number more entry address bytes [] (words_for bytes)))
goes_to_place config (ReadingFrameWord number more entry address bytes read words) step left g = (g.0, g.1, g.2 ∙ sym (words_left config number more entry address bytes (read ++ g.0 ∷ []) words))
goes_to_place config (WritingUsedId number more entry) step left g = (0, g.0, g.1)
goes_to_place config (WritingUsedLength number more) step left g = (0, g.0, g.1)
goes_to_place config (WritingUsedIndex number more) step left g = (0, g.0, g.1 ∙ sym (items_left config (number + 1) more))
goes_to_place config RingingPoll step left g = (0, g.0, g.1)

place_goes : (config : EndConfig) (place : Place) (value : ℕ) → is_open place ≡ true → Goes (remaining config place) (step_at config place value) (remaining config (next_place config place value))
place_goes config Closed value is = let f : false ≡ true = is in cc
place_goes config (ReadingOtherState handshake) value is = (value, refl, tick_left config (move_of handshake value))
place_goes config (Clearing at more state) value is = (refl, clear_left config (at + 1) more state)
place_goes config (WritingState state) value is = (refl, refl)
place_goes config Refusing value is = (refl, refl)
place_goes config NotInRun value is = (refl, refl)
place_goes config (ReadingUsedIndex pending freed) value is = (value, refl, sym (going_on config (is_used_index (freed % 65536) (high_half value) (pending.number - freed)) (ids_place config pending freed (returned_by freed value)) _ (ids_left config pending freed (returned_by freed value))))
place_goes config (ReadingUsedId pending freed more) value is = (value, refl, sym (going_on config (is_used_id (descriptor_of config freed) value) (ids_place config pending (freed + 1) more) _ (ids_left config pending (freed + 1) more)))
place_goes config (WritingFrameWord pending at more) value is = (refl, fill_left config pending (at + 1) more)
place_goes config (WritingDescAddressLow pending) value is = (refl, refl)
place_goes config (WritingDescAddressHigh pending) value is = (refl, refl)
place_goes config (WritingDescLength pending) value is = (refl, refl)
place_goes config (WritingDescFlags pending) value is = (refl, refl)
place_goes config (WritingAvailEntry pending) value is = (refl, refl)
place_goes config (WritingAvailIndex pending) value is = (refl, notify_remains config pending.number)
place_goes config (ReadingAvailEvent number) value is = (value, refl, chosen config (wants_doorbell (low_half value) number) RingingOffer Closed)
place_goes config RingingOffer value is = (refl, refl)
place_goes config (ReadingAvailIndex taken last) value is = subst (λ (t : CallTree). Goes t (step_at config (ReadingAvailIndex taken last) value) (remaining config (next_place config (ReadingAvailIndex taken last) value))) (sym (poll_is config taken last)) (look_comes config taken last value)
place_goes config (WritingAvailEvent taken) value is = (refl, refl)
place_goes config (ReadingAvailEntry number more) value is = (value, refl, sym (going_on config (is_avail_entry config.sizes (entry_half (avail_entry_of config number) value)) (ReadingDescAddressLow number more (entry_half (avail_entry_of config number) value)) _ refl))
place_goes config (ReadingDescAddressLow number more entry) value is = (value, refl, refl)
place_goes config (ReadingDescAddressHigh number more entry low) value is = (value, refl, sym (going_on config (is_desc_address config.sizes (address_of low value)) (ReadingDescLength number more entry (address_of low value)) _ refl))
place_goes config (ReadingDescLength number more entry address) value is = (value, refl, sym (going_on config (is_desc_length config.sizes address value) (ReadingDescFlags number more entry address value) _ refl))
place_goes config (ReadingDescFlags number more entry address bytes) value is = (value, refl, sym (going_on config (is_desc_flags (desc_flags value)) (words_place number more entry address bytes [] (words_for bytes)) _ (words_left config number more entry address bytes [] (words_for bytes))))
place_goes config (ReadingFrameWord number more entry address bytes read words) value is = (value, refl, words_left config number more entry address bytes (read ++ value ∷ []) words)
place_goes config (WritingUsedId number more entry) value is = (refl, refl)
place_goes config (WritingUsedLength number more) value is = (refl, refl)
place_goes config (WritingUsedIndex number more) value is = (refl, items_left config (number + 1) more)
place_goes config RingingPoll value is = (refl, refl)

first_place_has_tree : (config : EndConfig) (end : End) (call : Call) → remaining config (first_place config end call) ≡ tree_of config end call
first_place_has_tree config end Tick = refl
first_place_has_tree config end Stop = refl
first_place_has_tree config end (Offer frame) = chosen config (in_run end.handshake.phase) (ReadingUsedIndex (pending_of config end frame) end.freed) NotInRun
first_place_has_tree config end Poll = chosen config (in_run end.handshake.phase) (ReadingAvailIndex (length end.delivered) (is_last config end.found_none)) NotInRun

pub following : PlacesFollowTrees
following = record { begins = first_place_has_tree; goes = goes_to_place; comes = place_goes }
