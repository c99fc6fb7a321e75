-- Every call has its State rows.
use Rattle.std.proofs.Common.{◌≡◌, ℕ, zero, suc, ◌+◌, ◌-◌, true, false, Bool, List, [], ◌∷◌, ◌++◌, length, refl, sym, subst, inl, inr}
use Rattle.std.specs.Prelude.{◌==◌, if◌then◌else◌, ◌%◌}
use Rattle.split_ring.specs.declared.ranges.FieldName.TheVariants as field_name
use Rattle.split_ring.specs.Layout.{has_events, word_offset, AvailIndex, UsedIndex, UsedId}
use Rattle.split_ring.specs.Spelling.{low_half, high_half, entry_half, desc_flags}
use Rattle.link_handshake.specs.declared.Phase.{Phase}
use Rattle.link_handshake.specs.HandshakeState.{move_of}
use Rattle.link_handshake.specs.declared.Move.{Move}
use Rattle.link_handshake.specs.declared.Move.TheVariants.{Stay, Set, ClearThenSet}
use Rattle.link_handshake.specs.PhaseTable.{phase_move}
use Rattle.split_ring.specs.declared.steps.Access.{Access}
use Rattle.split_ring.specs.declared.steps.Access.TheVariants as access
use Rattle.split_ring.specs.Ranges.{is_avail_entry, is_desc_address, is_desc_length, is_desc_flags, is_used_id, is_avail_index, is_used_index}
use Rattle.call_grammar.specs.Steps.{Mark, Reclaim, Full, Look, Deliver, Done, Over, Step, value_given, step_of}
use Rattle.call_grammar.specs.Trees.{CallTree, Ended, Does, Reads, Goes}
use Rattle.call_grammar.specs.Ends.{End}
use Rattle.call_grammar.specs.Ticks.{EndConfig, clear, set_state, tick_marks, after_tick}
use Rattle.call_grammar.specs.Words.{address_of, words_for, frame_in}
use Rattle.call_grammar.specs.Offers.{PendingOffer, frame_fits, avail_entry_of, descriptor_of, refusal, full_marks, ring_doorbell, wants_doorbell, read_avail_event, notify, write_frame_words, read_used_ids, returned_by, reclaim_marks, offer}
use Rattle.call_grammar.specs.Polls.{read_words, read_flags, read_length, read_high, read_low, item, items, published_by, is_last, look_marks, read_avail_index, write_avail_event, poll}
use Rattle.call_grammar.specs.Calls.{Call, Tick, Stop, Offer, Poll, in_run, pending_of, down, tree_of}
use Rattle.call_grammar.specs.Rows.{MovesTo, phase_with, seen_with, SeesTheOther, RowHolds, KeepsRows, CallsKeepRows}

-- The move of an end is none, or the table's.
abbrev IsMove : Phase → ℕ → Move → Type 0
IsMove phase value Stay = Unit {0}
IsMove phase value (Set state) = MovesTo phase value state
IsMove phase value (ClearThenSet state) = MovesTo phase value state

table_moves : (phase : Phase) (value : ℕ) (move : Move) → phase_move phase value ≡ move → IsMove phase value move
table_moves phase value Stay is = tt
table_moves phase value (Set state) is = inl is
table_moves phase value (ClearThenSet state) is = inr is

move_moves : (phase : Phase) (value : ℕ) (refused : Bool) → IsMove phase value (if refused then Stay else phase_move phase value)
move_moves phase value true = tt
move_moves phase value false = table_moves phase value (phase_move phase value) refl

clear_keeps : (config : EndConfig) (phase : Phase) (seen at more state : ℕ) → MovesTo phase seen state → KeepsRows config phase seen (clear at more (set_state state))
clear_keeps config phase seen at zero state moves = ((inr moves, tt), tt)
clear_keeps config phase seen at (suc more) state moves = (tt, clear_keeps config phase seen (at + 1) more state moves)

tick_keeps : (config : EndConfig) (phase : Phase) (value : ℕ) (move : Move) (seen : ℕ) → IsMove phase value move →
    RowHolds config phase seen (access.Read config.other) value (tick_marks value move) × KeepsRows config phase (seen_with seen (tick_marks value move)) (after_tick config move)
tick_keeps config phase value Stay seen is = ((refl, refl, tt), tt)
tick_keeps config phase value (Set state) seen is = ((refl, refl, tt), ((inr is, tt), tt))
tick_keeps config phase value (ClearThenSet state) seen is = ((refl, refl, tt), clear_keeps config phase value config.own config.words state is)

-- A choice of two parts.
either : (config : EndConfig) (phase : Phase) (seen : ℕ) (b : Bool) (t u : CallTree) → KeepsRows config phase seen t → KeepsRows config phase seen u → KeepsRows config phase seen (if b then t else u)
either config phase seen true t u first second = first
either config phase seen false t u first second = second

-- A choice of marks without `Saw`.
blind : (config : EndConfig) (word value : ℕ) (b : Bool) (m n : List Mark) → SeesTheOther config word value m → SeesTheOther config word value n → SeesTheOther config word value (if b then m else n)
blind config word value true m n first second = first
blind config word value false m n first second = second

back_off : (config : EndConfig) (phase : Phase) (seen : ℕ) → KeepsRows config phase seen (set_state 0)
back_off config phase seen = ((inl refl, tt), tt)

full_sees : (config : EndConfig) (word value : ℕ) (pending : PendingOffer) (freed : ℕ) → SeesTheOther config word value (full_marks config pending freed)
full_sees config word value pending freed = blind config word value (frame_fits config pending freed) [] (Full ∷ []) tt tt

notify_keeps_rows : (config : EndConfig) (phase : Phase) (seen number : ℕ) → KeepsRows config phase seen (notify config number)
notify_keeps_rows config phase seen number = either config phase seen (has_events config.sizes) (read_avail_event config number) (ring_doorbell config) (λ value. (
  blind config _ value (wants_doorbell (low_half value) number) [] (Over ∷ []) tt tt,
  either config phase _ (wants_doorbell (low_half value) number) (ring_doorbell config) Ended (tt, tt) tt,
)) (tt, tt)

fill_keeps : (config : EndConfig) (phase : Phase) (seen : ℕ) (pending : PendingOffer) (at more : ℕ) → KeepsRows config phase seen (write_frame_words config pending at more)
fill_keeps config phase seen pending at zero = (tt, (tt, (tt, (tt, (tt, (tt, notify_keeps_rows config phase seen pending.number))))))
fill_keeps config phase seen pending at (suc more) = (tt, fill_keeps config phase seen pending (at + 1) more)

ids_keep : (config : EndConfig) (phase : Phase) (pending : PendingOffer) (freed more seen : ℕ) → KeepsRows config phase seen (read_used_ids config pending freed more)
ids_keep config phase pending freed zero seen = either config phase seen (frame_fits config pending freed) (write_frame_words config pending 0 (words_for (length pending.frame))) Ended (fill_keeps config phase seen pending 0 (words_for (length pending.frame))) tt
ids_keep config phase pending freed (suc more) seen = λ value. let word = config.other_start + word_offset config.sizes (UsedId (avail_entry_of config freed)) in (
  blind config word value (is_used_id (descriptor_of config freed) value) (if more == 0 then full_marks config pending (freed + 1) else []) (refusal field_name.UsedId value)
      (blind config word value (more == 0) (full_marks config pending (freed + 1)) [] (full_sees config word value pending (freed + 1)) tt) tt,
  either config phase _ (is_used_id (descriptor_of config freed) value) (read_used_ids config pending (freed + 1) more) (set_state 0) (ids_keep config phase pending (freed + 1) more _) (back_off config phase _),
)

offer_keeps : (config : EndConfig) (phase : Phase) (seen : ℕ) (pending : PendingOffer) (freed : ℕ) → KeepsRows config phase seen (offer config pending freed)
offer_keeps config phase seen pending freed = λ value. let word = config.other_start + word_offset config.sizes UsedIndex in let d = returned_by freed value in (
  blind config word value (is_used_index (freed % 65536) (high_half value) (pending.number - freed)) (reclaim_marks config pending freed d) (refusal field_name.UsedIndex (high_half value))
      (blind config word value (d == 0) (Reclaim 0 ∷ full_marks config pending freed) (Reclaim d ∷ []) (full_sees config word value pending freed) tt) tt,
  either config phase _ (is_used_index (freed % 65536) (high_half value) (pending.number - freed)) (read_used_ids config pending freed d) (set_state 0) (ids_keep config phase pending freed d _) (back_off config phase _),
)

words_keep : (config : EndConfig) (phase : Phase) (number entry address bytes : ℕ) (read : List ℕ) (more : ℕ) (after : CallTree) → ((seen : ℕ) → KeepsRows config phase seen after) → (seen : ℕ) → KeepsRows config phase seen (read_words config number entry address bytes read more after)
words_keep config phase number entry address bytes read zero after keeps seen = (tt, (tt, (tt, keeps _)))
words_keep config phase number entry address bytes read (suc more) after keeps seen = λ value. (
  blind config _ value (more == 0) (Deliver (frame_in bytes (read ++ value ∷ [])) ∷ []) [] tt tt,
  words_keep config phase number entry address bytes (read ++ value ∷ []) more after keeps _,
)

flags_keep : (config : EndConfig) (phase : Phase) (seen number entry address bytes : ℕ) (after : CallTree) → ((seen : ℕ) → KeepsRows config phase seen after) → KeepsRows config phase seen (read_flags config number entry address bytes after)
flags_keep config phase seen number entry address bytes after keeps = λ value. (
  blind config _ value (is_desc_flags (desc_flags value)) [] (refusal field_name.DescFlags (desc_flags value)) tt tt,
  either config phase _ (is_desc_flags (desc_flags value)) (read_words config number entry address bytes [] (words_for bytes) after) (set_state 0) (words_keep config phase number entry address bytes [] (words_for bytes) after keeps _) (back_off config phase _),
)

length_keeps : (config : EndConfig) (phase : Phase) (seen number entry address : ℕ) (after : CallTree) → ((seen : ℕ) → KeepsRows config phase seen after) → KeepsRows config phase seen (read_length config number entry address after)
length_keeps config phase seen number entry address after keeps = λ value. (
  blind config _ value (is_desc_length config.sizes address value) [] (refusal field_name.DescLength value) tt tt,
  either config phase _ (is_desc_length config.sizes address value) (read_flags config number entry address value after) (set_state 0) (flags_keep config phase _ number entry address value after keeps) (back_off config phase _),
)

high_keeps : (config : EndConfig) (phase : Phase) (seen number entry low : ℕ) (after : CallTree) → ((seen : ℕ) → KeepsRows config phase seen after) → KeepsRows config phase seen (read_high config number entry low after)
high_keeps config phase seen number entry low after keeps = λ value. (
  blind config _ value (is_desc_address config.sizes (address_of low value)) [] (refusal field_name.DescAddress (address_of low value)) tt tt,
  either config phase _ (is_desc_address config.sizes (address_of low value)) (read_length config number entry (address_of low value) after) (set_state 0) (length_keeps config phase _ number entry (address_of low value) after keeps) (back_off config phase _),
)

item_keeps : (config : EndConfig) (phase : Phase) (seen number : ℕ) (after : CallTree) → ((seen : ℕ) → KeepsRows config phase seen after) → KeepsRows config phase seen (item config number after)
item_keeps config phase seen number after keeps = λ value. let e = entry_half (avail_entry_of config number) value in (
  blind config _ value (is_avail_entry config.sizes e) [] (refusal field_name.AvailEntry e) tt tt,
  either config phase _ (is_avail_entry config.sizes e) (read_low config number e after) (set_state 0) (λ low. (tt, high_keeps config phase _ number e low after keeps)) (back_off config phase _),
)

items_keep : (config : EndConfig) (phase : Phase) (seen number more : ℕ) → KeepsRows config phase seen (items config number more)
items_keep config phase seen number zero = (tt, tt)
items_keep config phase seen number (suc more) = item_keeps config phase seen number (items config (number + 1) more) (λ s. items_keep config phase s (number + 1) more)

look_keeps : (config : EndConfig) (phase : Phase) (seen taken : ℕ) (last : Bool) (none : CallTree) → ((seen : ℕ) → KeepsRows config phase seen none) → KeepsRows config phase seen (read_avail_index config taken last none)
look_keeps config phase seen taken last none keeps = λ value. let word = config.other_start + word_offset config.sizes AvailIndex in let d = published_by taken value in (
  blind config word value (is_avail_index config.sizes (taken % 65536) (high_half value)) (look_marks last d) (refusal field_name.AvailIndex (high_half value))
      (blind config word value (d == 0) (if last then Look 0 ∷ Done ∷ [] else Look 0 ∷ []) (Look d ∷ []) (blind config word value last (Look 0 ∷ Done ∷ []) (Look 0 ∷ []) tt tt) tt) tt,
  either config phase _ (is_avail_index config.sizes (taken % 65536) (high_half value)) (if d == 0 then none else items config taken d) (set_state 0) (either config phase _ (d == 0) none (items config taken d) (keeps _) (items_keep config phase _ taken d)) (back_off config phase _),
)

poll_keeps : (config : EndConfig) (phase : Phase) (seen taken : ℕ) (last : Bool) → KeepsRows config phase seen (poll config taken last)
poll_keeps config phase seen taken true = look_keeps config phase seen taken true Ended (λ seen. tt)
poll_keeps config phase seen taken false = look_keeps config phase seen taken false (write_avail_event config taken (read_avail_index config taken true Ended)) (λ seen. (tt, look_keeps config phase seen taken true Ended (λ seen. tt)))

call_keeps : (config : EndConfig) (end : End) (seen : ℕ) (call : Call) → KeepsRows config end.handshake.phase seen (tree_of config end call)
call_keeps config end seen Tick = λ value. tick_keeps config end.handshake.phase value (move_of end.handshake value) seen (move_moves end.handshake.phase value end.handshake.mark)
call_keeps config end seen Stop = back_off config end.handshake.phase seen
call_keeps config end seen (Offer frame) = either config end.handshake.phase seen (in_run end.handshake.phase) (offer config (pending_of config end frame) end.freed) down (offer_keeps config end.handshake.phase seen (pending_of config end frame) end.freed) (tt, tt)
call_keeps config end seen Poll = either config end.handshake.phase seen (in_run end.handshake.phase) (poll config (length end.delivered) (is_last config end.found_none)) down (poll_keeps config end.handshake.phase seen (length end.delivered) (is_last config end.found_none)) (tt, tt)

-- The row of a step with its own value.
row_of : (config : EndConfig) (phase : Phase) (seen : ℕ) (a : Access) (value : ℕ) (marks : List Mark) → RowHolds config phase seen a 0 marks → RowHolds config phase seen a (value_given a 0) marks
row_of config phase seen (access.Read word) value marks row = row
row_of config phase seen (access.Write word written) value marks row = row
row_of config phase seen (access.State state) value marks row = row
row_of config phase seen (access.Ring target vector) value marks row = row
row_of config phase seen access.Nothing value marks row = row

step_keeps : (config : EndConfig) (phase : Phase) (seen : ℕ) (tree new : CallTree) (step : Step) → KeepsRows config phase seen tree → Goes tree step new →
    RowHolds config phase seen step.access step.value step.marks × KeepsRows config (phase_with phase step.access) (seen_with seen step.marks) new
step_keeps config phase seen Ended new step keeps goes = absurd goes
step_keeps config phase seen (Does access marks rest) new step keeps goes =
    let P : Step → CallTree → Type 0 = λ s t. RowHolds config phase seen s.access s.value s.marks × KeepsRows config (phase_with phase s.access) (seen_with seen s.marks) t in
    subst (λ (s : Step). P s new) (sym goes.0) (subst (λ (t : CallTree). P (step_of access 0 marks) t) (sym goes.1) (row_of config phase seen access 0 marks keeps.0, keeps.1))
step_keeps config phase seen (Reads word marks rest) new step keeps goes =
    let P : Step → CallTree → Type 0 = λ s t. RowHolds config phase seen s.access s.value s.marks × KeepsRows config (phase_with phase s.access) (seen_with seen s.marks) t in
    subst (λ (s : Step). P s new) (sym goes.1) (subst (λ (t : CallTree). P (step_of (access.Read word) goes.0 (marks goes.0)) t) (sym goes.2) (keeps goes.0))

pub rowing : CallsKeepRows
rowing = record { calls = call_keeps; step = step_keeps }
