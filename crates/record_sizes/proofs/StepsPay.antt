-- Each step of a call pays for its lines: with the credit of the current frame for its digits it
-- costs at most 200 bytes.
use Rattle.std.proofs.Common.{◌≡◌, ℕ, zero, suc, ◌+◌, ◌-◌, ◌*◌, ◌≤◌, Bool, true, false, List, [], ◌∷◌, ◌++◌, length, refl, ap, arith, length-take, length-append, decimal, ne_eqb}
use Rattle.std.specs.Prelude.{◌==◌, if◌then◌else◌, map, ◌%◌}
use Rattle.std.specs.List.{flat_map}
use Rattle.link_handshake.specs.declared.Move.{Move}
use Rattle.link_handshake.specs.declared.Move.TheVariants as move
use Rattle.link_handshake.specs.HandshakeState.{move_of}
use Rattle.split_ring.specs.declared.steps.Access.{Access}
use Rattle.split_ring.specs.declared.steps.Access.TheVariants as access
use Rattle.split_ring.specs.Layout.{has_events, limit_of}
use Rattle.split_ring.specs.Spelling.{low_half, high_half, desc_flags}
use Rattle.split_ring.specs.Ranges.{is_avail_entry, is_desc_address, is_desc_length, is_avail_index, is_desc_flags, is_used_index, is_used_id}
use Rattle.call_grammar.specs.Steps.{Mark, Full, Look, Deliver, Done}
use Rattle.call_grammar.specs.Words.{address_of, words_for, word_bytes, frame_in}
use Rattle.call_grammar.specs.Ticks.{EndConfig, tick_marks}
use Rattle.call_grammar.specs.Offers.{PendingOffer, frame_fits, descriptor_of, full_marks, used_id_marks, returned_by, reclaim_marks, used_index_marks, wants_doorbell, avail_event_marks}
use Rattle.call_grammar.specs.Polls.{entry_in, entry_marks, address_marks, length_marks, flags_marks, published_by, look_marks, avail_index_marks}
use Rattle.call_grammar.specs.Places.{Place, Closed, ReadingOtherState, Clearing, WritingState, Refusing, NotInRun, ReadingUsedIndex, ReadingUsedId, WritingFrameWord, WritingDescAddressLow, WritingDescAddressHigh, WritingDescLength, WritingDescFlags, WritingAvailEntry, WritingAvailIndex, ReadingAvailEvent, RingingOffer, ReadingAvailIndex, WritingAvailEvent, ReadingAvailEntry, ReadingDescAddressLow, ReadingDescAddressHigh, ReadingDescLength, ReadingDescFlags, ReadingFrameWord, WritingUsedId, WritingUsedLength, WritingUsedIndex, RingingPoll, clear_place, tick_place, fill_place, ids_place, notify_place, none_place, items_place, words_place, access_at, marks_at, next_place}
use Rattle.call_grammar.proofs.OfferLists.{no}
use Rattle.lawful_history.specs.declared.line.Line.{Line}
use Rattle.lawful_history.specs.EventRecords.{access_lines, mark_line}
use Rattle.record_sizes.proofs.LineBytes.{price}

-- The greatest cost of lines

abbrev pub prices : List Line → ℕ
prices [] = 0
prices (line ∷ lines) = price line + prices lines

abbrev pub marks_price : ℕ → List Mark → ℕ
marks_price peer marks = prices (map (mark_line peer) marks)

-- An access that may interrupt others has room for eight interrupts of 18 bytes.
abbrev pub interrupts_price : Access → ℕ
interrupts_price (access.State value) = 144
interrupts_price (access.Ring target vector) = 144
interrupts_price _ = 0

-- The credit of the current frame: 8 digits for each of its words that was written or read

abbrev pub credit : Place → ℕ
credit (WritingFrameWord pending at more) = 8 * (words_for (length pending.frame) - suc more)
credit (WritingDescAddressLow pending) = 8 * words_for (length pending.frame)
credit (WritingDescAddressHigh pending) = 8 * words_for (length pending.frame)
credit (WritingDescLength pending) = 8 * words_for (length pending.frame)
credit (WritingDescFlags pending) = 8 * words_for (length pending.frame)
credit (WritingAvailEntry pending) = 8 * words_for (length pending.frame)
credit (WritingAvailIndex pending) = 8 * words_for (length pending.frame)
credit (ReadingFrameWord number more entry address bytes read words) = 8 * length read
credit _ = 0

-- By tests

either : {A : Type 0} (f : A → ℕ) (b : Bool) (x y : A) (most : ℕ) → f x ≤ most → f y ≤ most → f (if b then x else y) ≤ most
either f true x y most one other = one
either f false x y most one other = other

-- The marks

tick_price : (peer value : ℕ) (m : Move) → marks_price peer (tick_marks value m) ≤ 42
tick_price peer value move.Stay = omega arith
tick_price peer value (move.Set state) = omega arith
tick_price peer value (move.ClearThenSet state) = omega arith

full_price : (peer : ℕ) (config : EndConfig) (pending : PendingOffer) (freed : ℕ) → marks_price peer (full_marks config pending freed) ≤ 16
full_price peer config pending freed = either (marks_price peer) (frame_fits config pending freed) [] (Full ∷ []) 16 (omega arith) (omega arith)

reclaim_price : (peer : ℕ) (config : EndConfig) (pending : PendingOffer) (freed count : ℕ) → marks_price peer (reclaim_marks config pending freed count) ≤ 46
reclaim_price peer config pending freed count = let full = full_price peer config pending freed in either (marks_price peer) (count == 0) _ _ 46 (omega arith) (omega arith)

used_price : (peer : ℕ) (config : EndConfig) (pending : PendingOffer) (freed value : ℕ) → marks_price peer (used_index_marks config pending freed value) ≤ 51
used_price peer config pending freed value =
    let reclaim = reclaim_price peer config pending freed (returned_by freed value) in
    either (marks_price peer) (is_used_index (freed % 65536) (high_half value) (pending.number - freed)) _ _ 51 (omega arith) (omega arith)

id_price : (peer : ℕ) (config : EndConfig) (pending : PendingOffer) (freed more value : ℕ) → marks_price peer (used_id_marks config pending freed more value) ≤ 51
id_price peer config pending freed more value =
    let full = full_price peer config pending (freed + 1) in
    let last = either (marks_price peer) (more == 0) (full_marks config pending (freed + 1)) [] 51 (omega arith) (omega arith) in
    either (marks_price peer) (is_used_id (descriptor_of config freed) value) _ _ 51 last (omega arith)

event_price : (peer number value : ℕ) → marks_price peer (avail_event_marks number value) ≤ 51
event_price peer number value = either (marks_price peer) (wants_doorbell (low_half value) number) [] _ 51 (omega arith) (omega arith)

look_price : (peer : ℕ) (last : Bool) (count : ℕ) → marks_price peer (look_marks last count) ≤ 51
look_price peer last count =
    let none = either (marks_price peer) last (Look 0 ∷ Done ∷ []) (Look 0 ∷ []) 51 (omega arith) (omega arith) in
    either (marks_price peer) (count == 0) _ _ 51 none (omega arith)

available_price : (peer : ℕ) (config : EndConfig) (taken : ℕ) (last : Bool) (value : ℕ) → marks_price peer (avail_index_marks config taken last value) ≤ 51
available_price peer config taken last value =
    either (marks_price peer) (is_avail_index config.sizes (taken % 65536) (high_half value)) _ _ 51 (look_price peer last (published_by taken value)) (omega arith)

entry_price : (peer : ℕ) (config : EndConfig) (number value : ℕ) → marks_price peer (entry_marks config number value) ≤ 51
entry_price peer config number value = either (marks_price peer) (is_avail_entry config.sizes (entry_in config number value)) [] _ 51 (omega arith) (omega arith)

address_price : (peer : ℕ) (config : EndConfig) (low value : ℕ) → marks_price peer (address_marks config low value) ≤ 51
address_price peer config low value = either (marks_price peer) (is_desc_address config.sizes (address_of low value)) [] _ 51 (omega arith) (omega arith)

length_price : (peer : ℕ) (config : EndConfig) (address value : ℕ) → marks_price peer (length_marks config address value) ≤ 51
length_price peer config address value = either (marks_price peer) (is_desc_length config.sizes address value) [] _ 51 (omega arith) (omega arith)

flags_price : (peer value : ℕ) → marks_price peer (flags_marks value) ≤ 51
flags_price peer value = either (marks_price peer) (is_desc_flags (desc_flags value)) [] _ 51 (omega arith) (omega arith)

-- The credit at the next place

clear_credit : (at count state : ℕ) → credit (clear_place at count state) ≡ 0
clear_credit at zero state = refl
clear_credit at (suc more) state = refl

tick_credit : (config : EndConfig) (m : Move) → credit (tick_place config m) ≡ 0
tick_credit config move.Stay = refl
tick_credit config (move.Set state) = refl
tick_credit config (move.ClearThenSet state) = clear_credit config.own config.words state

start_credit : (pending : PendingOffer) (words : ℕ) → words_for (length pending.frame) ≡ words → credit (fill_place pending 0 words) ≤ 0
start_credit pending zero is = omega arith
start_credit pending (suc more) is = omega arith

fill_credit : (pending : PendingOffer) (at more : ℕ) → credit (fill_place pending at more) ≤ 8 + 8 * (words_for (length pending.frame) - suc more)
fill_credit pending at zero = omega arith
fill_credit pending at (suc more) = omega arith

ids_credit : (config : EndConfig) (pending : PendingOffer) (freed count : ℕ) → credit (ids_place config pending freed count) ≤ 0
ids_credit config pending freed zero =
    either credit (frame_fits config pending freed) (fill_place pending 0 (words_for (length pending.frame))) Closed 0 (start_credit pending (words_for (length pending.frame)) refl) (omega arith)
ids_credit config pending freed (suc more) = omega arith

notify_credit : (config : EndConfig) (number : ℕ) → credit (notify_place config number) ≤ 0
notify_credit config number = either credit (has_events config.sizes) (ReadingAvailEvent number) RingingOffer 0 (omega arith) (omega arith)

none_credit : (taken : ℕ) (last : Bool) → credit (none_place taken last) ≤ 0
none_credit taken last = either credit last Closed (WritingAvailEvent taken) 0 (omega arith) (omega arith)

items_credit : (number count : ℕ) → credit (items_place number count) ≤ 0
items_credit number zero = omega arith
items_credit number (suc more) = omega arith

words_credit : (number more entry address bytes : ℕ) (read : List ℕ) (words : ℕ) → credit (words_place number more entry address bytes read words) ≤ 8 * length read
words_credit number more entry address bytes read zero = omega arith
words_credit number more entry address bytes read (suc words) = omega arith

-- A delivered frame has at most four bytes for each word that was read.

all_bytes : (words : List ℕ) → length (flat_map word_bytes words) ≡ 4 * length words
all_bytes [] = refl
all_bytes (word ∷ words) = let later = all_bytes words in omega (arith, length-append (word_bytes word) (flat_map word_bytes words), later)

frame_bytes : (bytes : ℕ) (words : List ℕ) → length (frame_in bytes words) ≤ 4 * length words
frame_bytes bytes words = omega (arith, length-take bytes (flat_map word_bytes words), all_bytes words)

-- The step at a place

pub pays : (peer : ℕ) → length (decimal peer) ≤ 1 → (config : EndConfig) (place : Place) (met value : ℕ) →
    prices (access_lines peer (access_at config place) met) + interrupts_price (access_at config place) + marks_price peer (marks_at config place value) + credit (next_place config place value) ≤ credit place + 200
pays peer one config Closed met value = omega arith
pays peer one config (ReadingOtherState handshake) met value =
    let marks = tick_price peer value (move_of handshake value) in let next = tick_credit config (move_of handshake value) in omega arith
pays peer one config (Clearing at more state) met value = let next = clear_credit (at + 1) more state in omega arith
pays peer one config (WritingState state) met value = omega arith
pays peer one config Refusing met value = omega arith
pays peer one config NotInRun met value = omega arith
pays peer one config (ReadingUsedIndex pending freed) met value =
    let marks = used_price peer config pending freed value in
    let next = either credit (is_used_index (freed % 65536) (high_half value) (pending.number - freed)) (ids_place config pending freed (returned_by freed value)) Refusing 0 (ids_credit config pending freed (returned_by freed value)) (omega arith) in
    omega arith
pays peer one config (ReadingUsedId pending freed more) met value =
    let marks = id_price peer config pending freed more value in
    let next = either credit (is_used_id (descriptor_of config freed) value) (ids_place config pending (freed + 1) more) Refusing 0 (ids_credit config pending (freed + 1) more) (omega arith) in
    omega arith
pays peer one config (WritingFrameWord pending at more) met value = let next = fill_credit pending (at + 1) more in omega arith
pays peer one config (WritingDescAddressLow pending) met value = omega arith
pays peer one config (WritingDescAddressHigh pending) met value = omega arith
pays peer one config (WritingDescLength pending) met value = omega arith
pays peer one config (WritingDescFlags pending) met value = omega arith
pays peer one config (WritingAvailEntry pending) met value = omega arith
pays peer one config (WritingAvailIndex pending) met value = let next = notify_credit config pending.number in omega arith
pays peer one config (ReadingAvailEvent number) met value =
    let marks = event_price peer number value in
    let next = either credit (wants_doorbell (low_half value) number) RingingOffer Closed 0 (omega arith) (omega arith) in omega arith
pays peer one config RingingOffer met value = omega arith
pays peer one config (ReadingAvailIndex taken last) met value =
    let marks = available_price peer config taken last value in
    let found = published_by taken value in
    let items = either credit (found == 0) (none_place taken last) (items_place taken found) 0 (none_credit taken last) (items_credit taken found) in
    let next = either credit (is_avail_index config.sizes (taken % 65536) (high_half value)) (if found == 0 then none_place taken last else items_place taken found) Refusing 0 items (omega arith) in
    omega arith
pays peer one config (WritingAvailEvent taken) met value = omega arith
pays peer one config (ReadingAvailEntry number more) met value =
    let good = is_avail_entry config.sizes (entry_in config number value) in
    let marks = entry_price peer config number value in
    let next = either credit good (ReadingDescAddressLow number more (entry_in config number value)) Refusing 0 (omega arith) (omega arith) in omega arith
pays peer one config (ReadingDescAddressLow number more entry) met value = omega arith
pays peer one config (ReadingDescAddressHigh number more entry low) met value =
    let good = is_desc_address config.sizes (address_of low value) in
    let marks = address_price peer config low value in
    let next = either credit good (ReadingDescLength number more entry (address_of low value)) Refusing 0 (omega arith) (omega arith) in omega arith
pays peer one config (ReadingDescLength number more entry address) met value =
    let good = is_desc_length config.sizes address value in
    let marks = length_price peer config address value in
    let next = either credit good (ReadingDescFlags number more entry address value) Refusing 0 (omega arith) (omega arith) in omega arith
pays peer one config (ReadingDescFlags number more entry address bytes) met value =
    let good = is_desc_flags (desc_flags value) in
    let marks = flags_price peer value in
    let next = either credit good (words_place number more entry address bytes [] (words_for bytes)) Refusing 0 (words_credit number more entry address bytes [] (words_for bytes)) (omega arith) in omega arith
pays peer one config (ReadingFrameWord number more entry address bytes read zero) met value =
    omega (arith, frame_bytes bytes (read ++ value ∷ []), length-append read (value ∷ []))
pays peer one config (ReadingFrameWord number more entry address bytes read (suc words)) met value =
    let marks = ap (marks_price peer) (no (suc words == 0) (Deliver (frame_in bytes (read ++ value ∷ [])) ∷ []) [] (ne_eqb (suc words) 0 (λ e. omega arith))) in
    omega (arith, words_credit number more entry address bytes (read ++ value ∷ []) (suc words), length-append read (value ∷ []), marks)
pays peer one config (WritingUsedId number more entry) met value = omega arith
pays peer one config (WritingUsedLength number more) met value = omega arith
pays peer one config (WritingUsedIndex number more) met value = let next = items_credit (number + 1) more in omega arith
pays peer one config RingingPoll met value = omega arith
