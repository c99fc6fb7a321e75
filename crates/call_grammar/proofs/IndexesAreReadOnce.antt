-- An index is read once for each use.
use Rattle.std.proofs.Common.{◌≡◌, ◌≢◌, ℕ, zero, suc, ◌+◌, ◌-◌, ◌*◌, ◌/◌, ◌<◌, ◌≤◌, Bool, true, false, List, [], ◌∷◌, ◌++◌, length, refl, sym, ap, ◌∙◌, subst, arith, All, eq-eqb, ne_eqb}
use Rattle.std.specs.Prelude.{◌==◌, ◌||◌, if◌then◌else◌, ◌%◌}
use Rattle.std.proofs.lemmas.Nat.{mod_below}
use Rattle.std.proofs.lemmas.List.Elements.{All-nil, All-cons}
use Rattle.link_handshake.specs.HandshakeState.{move_of}
use Rattle.link_handshake.specs.declared.Move.{Move}
use Rattle.link_handshake.specs.declared.Move.TheVariants.{Stay, Set, ClearThenSet}
use Rattle.split_ring.specs.Layout.{has_events, size_of, data_area_start, word_offset, AvailEntry, UsedId, AvailEvent}
use Rattle.split_ring.specs.Spelling.{low_half, high_half, entry_half, desc_flags}
use Rattle.split_ring.specs.declared.ranges.FieldName.TheVariants as field_name
use Rattle.split_ring.specs.Ranges.{is_avail_entry, is_desc_address, is_desc_length, is_avail_index, is_desc_flags, is_used_index, is_used_id}
use Rattle.split_ring.proofs.TestsDecideRanges.{entry_of_test, address_of_test}
use Rattle.split_ring.proofs.QueueHasBounds.{bounds}
use Rattle.call_grammar.specs.Steps.{Mark, Reclaim, Full, Look, Deliver, Done, Over, Step}
use Rattle.call_grammar.specs.Trees.{CallTree, Ended, Does, Reads, Goes, GoesAlong}
use Rattle.call_grammar.specs.Ends.{End}
use Rattle.call_grammar.specs.Ticks.{EndConfig, clear, set_state, other_state, tick_marks, after_tick}
use Rattle.call_grammar.specs.Words.{address_of, words_for, frame_in}
use Rattle.call_grammar.specs.Offers.{PendingOffer, frame_fits, avail_entry_of, descriptor_of, refusal, full_marks, ring_doorbell, wants_doorbell, read_avail_event, notify, write_frame_words, used_id_marks, read_used_ids, returned_by, reclaim_marks, used_index_marks, offer}
use Rattle.call_grammar.specs.Polls.{read_words, read_flags, read_length, read_low, item, items, published_by, is_last, look_marks, avail_index_marks, after_look, read_avail_index, write_avail_event, poll}
use Rattle.call_grammar.specs.Calls.{Call, Tick, Stop, Offer, Poll, in_run, pending_of, down, tree_of}
use Rattle.call_grammar.specs.Permitted.{HasSections}
use Rattle.call_grammar.specs.ReadsOnce.{used_index_word, avail_index_word, indexes_used, index_at, indexes_read, ReadsForUse}
use Rattle.call_grammar.proofs.OfferLists.{yes, no}

-- Each step of the call reads an index exactly for its uses, for all values read.
abbrev UsesReads : EndConfig → CallTree → Type 0
UsesReads config Ended = Unit {0}
UsesReads config (Does access marks rest) = (indexes_read config access ≡ indexes_used config marks) × UsesReads config rest
UsesReads config (Reads word marks rest) = (value : ℕ) → (index_at config word ≡ indexes_used config (marks value)) × UsesReads config (rest value)

-- The index at a word

or_left : (a b : Bool) → a ≡ true → (a || b) ≡ true
or_left true b is = refl
or_left false b is = absurd (cc)

or_right : (a b : Bool) → b ≡ true → (a || b) ≡ true
or_right true b is = refl
or_right false b is = is

or_none : (a b : Bool) → a ≡ false → b ≡ false → (a || b) ≡ false
or_none false b is other = other
or_none true b is other = absurd (cc)

at_used : (config : EndConfig) → index_at config (used_index_word config) ≡ used_index_word config ∷ []
at_used config =
    yes ((used_index_word config == used_index_word config) || (used_index_word config == avail_index_word config)) (used_index_word config ∷ []) [] (or_left (used_index_word config == used_index_word config) (used_index_word config == avail_index_word config) (eq-eqb (used_index_word config) (used_index_word config) refl))

at_available : (config : EndConfig) → index_at config (avail_index_word config) ≡ avail_index_word config ∷ []
at_available config =
    yes ((avail_index_word config == used_index_word config) || (avail_index_word config == avail_index_word config)) (avail_index_word config ∷ []) [] (or_right (avail_index_word config == used_index_word config) (avail_index_word config == avail_index_word config) (eq-eqb (avail_index_word config) (avail_index_word config) refl))

at_no_index : (config : EndConfig) (word : ℕ) → word ≢ used_index_word config → word ≢ avail_index_word config → index_at config word ≡ []
at_no_index config word used available =
    no ((word == used_index_word config) || (word == avail_index_word config)) (word ∷ []) [] (or_none (word == used_index_word config) (word == avail_index_word config) (ne_eqb word (used_index_word config) used) (ne_eqb word (avail_index_word config) available))

-- The marks of a step use the same indexes in each case

either : (config : EndConfig) (b : Bool) (t u : List Mark) (words : List ℕ) → indexes_used config t ≡ words → indexes_used config u ≡ words → indexes_used config (if b then t else u) ≡ words
either config true t u words first second = first
either config false t u words first second = second

full_uses : (config : EndConfig) (pending : PendingOffer) (freed : ℕ) → indexes_used config (full_marks config pending freed) ≡ []
full_uses config pending freed = either config (frame_fits config pending freed) [] (Full ∷ []) [] refl refl

tick_uses : (config : EndConfig) (value : ℕ) (move : Move) → indexes_used config (tick_marks value move) ≡ []
tick_uses config value Stay = refl
tick_uses config value (Set state) = refl
tick_uses config value (ClearThenSet state) = refl

reclaim_uses : (config : EndConfig) (pending : PendingOffer) (freed count : ℕ) → indexes_used config (reclaim_marks config pending freed count) ≡ used_index_word config ∷ []
reclaim_uses config pending freed count =
    either config (count == 0) (Reclaim 0 ∷ full_marks config pending freed) (Reclaim count ∷ []) (used_index_word config ∷ []) (ap (λ (l : List ℕ). used_index_word config ∷ l) (full_uses config pending freed)) refl

used_uses : (config : EndConfig) (pending : PendingOffer) (freed value : ℕ) → indexes_used config (used_index_marks config pending freed value) ≡ used_index_word config ∷ []
used_uses config pending freed value =
    either config (is_used_index (freed % 65536) (high_half value) (pending.number - freed)) (reclaim_marks config pending freed (returned_by freed value)) (refusal field_name.UsedIndex (high_half value)) (used_index_word config ∷ [])
    (reclaim_uses config pending freed (returned_by freed value)) refl

id_uses : (config : EndConfig) (pending : PendingOffer) (freed more value : ℕ) → indexes_used config (used_id_marks config pending freed more value) ≡ []
id_uses config pending freed more value =
    either config (is_used_id (descriptor_of config freed) value) (if more == 0 then full_marks config pending (freed + 1) else []) (refusal field_name.UsedId value) []
    (either config (more == 0) (full_marks config pending (freed + 1)) [] [] (full_uses config pending (freed + 1)) refl) refl

available_uses : (config : EndConfig) (taken : ℕ) (last : Bool) (value : ℕ) → indexes_used config (avail_index_marks config taken last value) ≡ avail_index_word config ∷ []
available_uses config taken last value =
    either config (is_avail_index config.sizes (taken % 65536) (high_half value)) (look_marks last (published_by taken value)) (refusal field_name.AvailIndex (high_half value)) (avail_index_word config ∷ [])
    (either config (published_by taken value == 0) (if last then Look 0 ∷ Done ∷ [] else Look 0 ∷ []) (Look (published_by taken value) ∷ []) (avail_index_word config ∷ [])
    (either config last (Look 0 ∷ Done ∷ []) (Look 0 ∷ []) (avail_index_word config ∷ []) refl refl) refl) refl

-- The calls

choice : (config : EndConfig) (b : Bool) (t u : CallTree) → (b ≡ true → UsesReads config t) → UsesReads config u → UsesReads config (if b then t else u)
choice config true t u first second = first refl
choice config false t u first second = second

clear_uses : (config : EndConfig) (at more : ℕ) (after : CallTree) → UsesReads config after → UsesReads config (clear at more after)
clear_uses config at zero after uses = uses
clear_uses config at (suc more) after uses = (refl, clear_uses config (at + 1) more after uses)

after_tick_uses : (config : EndConfig) (move : Move) → UsesReads config (after_tick config move)
after_tick_uses config Stay = tt
after_tick_uses config (Set state) = (refl, tt)
after_tick_uses config (ClearThenSet state) = clear_uses config config.own config.words (set_state state) (refl, tt)

event_apart : (config : EndConfig) → HasSections config → index_at config (config.other_start + word_offset config.sizes AvailEvent) ≡ []
event_apart config has = let least = (bounds config.sizes has.queue).size_least in at_no_index config _ (λ e. omega (arith, e)) (λ e. omega (arith, e))

notify_uses_reads : (config : EndConfig) → HasSections config → (number : ℕ) → UsesReads config (notify config number)
notify_uses_reads config has number = choice config (has_events config.sizes) (read_avail_event config number) (ring_doorbell config) (λ _. λ value. (
  event_apart config has ∙ sym (either config (wants_doorbell (low_half value) number) [] (Over ∷ []) [] refl refl),
  choice config (wants_doorbell (low_half value) number) (ring_doorbell config) Ended (λ _. (refl, tt)) tt,
)) (refl, tt)

fill_uses : (config : EndConfig) → HasSections config → (pending : PendingOffer) (at more : ℕ) → UsesReads config (write_frame_words config pending at more)
fill_uses config has pending at zero = (refl, (refl, (refl, (refl, (refl, (refl, notify_uses_reads config has pending.number))))))
fill_uses config has pending at (suc more) = (refl, fill_uses config has pending (at + 1) more)

id_apart : (config : EndConfig) (freed : ℕ) → index_at config (config.other_start + word_offset config.sizes (UsedId (avail_entry_of config freed))) ≡ []
id_apart config freed = at_no_index config _ (λ e. omega (arith, e)) (λ e. omega (arith, e))

ids_use : (config : EndConfig) → HasSections config → (pending : PendingOffer) (freed more : ℕ) → UsesReads config (read_used_ids config pending freed more)
ids_use config has pending freed zero = choice config (frame_fits config pending freed) (write_frame_words config pending 0 (words_for (length pending.frame))) Ended (λ _. fill_uses config has pending 0 (words_for (length pending.frame))) tt
ids_use config has pending freed (suc more) = λ value. (
  id_apart config freed ∙ sym (id_uses config pending freed more value),
  choice config (is_used_id (descriptor_of config freed) value) (read_used_ids config pending (freed + 1) more) (set_state 0) (λ _. ids_use config has pending (freed + 1) more) (refl, tt),
)

offer_uses : (config : EndConfig) → HasSections config → (pending : PendingOffer) (freed : ℕ) → UsesReads config (offer config pending freed)
offer_uses config has pending freed = λ value. (
  at_used config ∙ sym (used_uses config pending freed value),
  choice config (is_used_index (freed % 65536) (high_half value) (pending.number - freed)) (read_used_ids config pending freed (returned_by freed value)) (set_state 0) (λ _. ids_use config has pending freed (returned_by freed value)) (refl, tt),
)

-- The words of a frame are after the words of the indices.
frame_apart : (config : EndConfig) (address at : ℕ) → data_area_start config.sizes ≤ address → index_at config (config.other_start + (address / 4 + at)) ≡ []
frame_apart config address at above = at_no_index config _ (λ e. omega (arith, e)) (λ e. omega (arith, e))

words_use : (config : EndConfig) (number entry address bytes : ℕ) (read : List ℕ) (more : ℕ) (after : CallTree) → data_area_start config.sizes ≤ address → UsesReads config after → UsesReads config (read_words config number entry address bytes read more after)
words_use config number entry address bytes read zero after above uses = (refl, (refl, (refl, uses)))
words_use config number entry address bytes read (suc more) after above uses = λ value. (
  frame_apart config address (length read) above ∙ sym (either config (more == 0) (Deliver (frame_in bytes (read ++ value ∷ [])) ∷ []) [] [] refl refl),
  words_use config number entry address bytes (read ++ value ∷ []) more after above uses,
)

low_apart : (config : EndConfig) (entry more : ℕ) → entry < size_of config.sizes → more < 4 → index_at config (config.other_start + (4 * entry + more)) ≡ []
low_apart config entry more low few = at_no_index config _ (λ e. omega (arith, e)) (λ e. omega (arith, e))

descriptor_apart : (config : EndConfig) (entry more word : ℕ) → entry < size_of config.sizes → more < 4 → word ≡ config.other_start + (4 * entry + more) → index_at config word ≡ []
descriptor_apart config entry more word low few is = ap (index_at config) is ∙ low_apart config entry more low few

entry_apart : (config : EndConfig) → HasSections config → (number : ℕ) → index_at config (config.other_start + word_offset config.sizes (AvailEntry (avail_entry_of config number))) ≡ []
entry_apart config has number =
    let least = (bounds config.sizes has.queue).size_least in
    let low = mod_below number (size_of config.sizes) (omega arith) in
    at_no_index config _ (λ e. omega (arith, e)) (λ e. omega (arith, e))

item_uses : (config : EndConfig) → HasSections config → (number : ℕ) (after : CallTree) → UsesReads config after → UsesReads config (item config number after)
item_uses config has number after uses = λ value. let e = entry_half (avail_entry_of config number) value in (
  entry_apart config has number ∙ sym (either config (is_avail_entry config.sizes e) [] (refusal field_name.AvailEntry e) [] refl refl),
  choice config (is_avail_entry config.sizes e) (read_low config number e after) (set_state 0) (λ test. let i = entry_of_test config.sizes e test in λ low. (
    descriptor_apart config e 0 _ i (omega arith) (omega arith),
    λ high. let a = address_of low high in (
      descriptor_apart config e 1 _ i (omega arith) (omega arith) ∙ sym (either config (is_desc_address config.sizes a) [] (refusal field_name.DescAddress a) [] refl refl),
      choice config (is_desc_address config.sizes a) (read_length config number e a after) (set_state 0) (λ atest. λ l. (
        descriptor_apart config e 2 _ i (omega arith) (omega arith) ∙ sym (either config (is_desc_length config.sizes a l) [] (refusal field_name.DescLength l) [] refl refl),
        choice config (is_desc_length config.sizes a l) (read_flags config number e a l after) (set_state 0) (λ _. λ flags. (
          descriptor_apart config e 3 _ i (omega arith) (omega arith) ∙ sym (either config (is_desc_flags (desc_flags flags)) [] (refusal field_name.DescFlags (desc_flags flags)) [] refl refl),
          choice config (is_desc_flags (desc_flags flags)) (read_words config number e a l [] (words_for l) after) (set_state 0)
              (λ _. words_use config number e a l [] (words_for l) after (address_of_test config.sizes a atest).1 uses) (refl, tt),
        )) (refl, tt),
      )) (refl, tt),
    ),
  )) (refl, tt),
)

items_use : (config : EndConfig) → HasSections config → (number more : ℕ) → UsesReads config (items config number more)
items_use config has number zero = (refl, tt)
items_use config has number (suc more) = item_uses config has number (items config (number + 1) more) (items_use config has (number + 1) more)

look_uses : (config : EndConfig) → HasSections config → (taken : ℕ) (last : Bool) (none : CallTree) → UsesReads config none → UsesReads config (read_avail_index config taken last none)
look_uses config has taken last none uses = λ value. let d = published_by taken value in (
  at_available config ∙ sym (available_uses config taken last value),
  choice config (is_avail_index config.sizes (taken % 65536) (high_half value)) (after_look config taken value none) (set_state 0) (λ _. choice config (d == 0) none (items config taken d) (λ _. uses) (items_use config has taken d)) (refl, tt),
)

poll_uses : (config : EndConfig) → HasSections config → (taken : ℕ) (last : Bool) → UsesReads config (poll config taken last)
poll_uses config has taken true = look_uses config has taken true Ended tt
poll_uses config has taken false = look_uses config has taken false (write_avail_event config taken (read_avail_index config taken true Ended)) (refl, look_uses config has taken true Ended tt)

call_uses : (config : EndConfig) (end : End) (call : Call) → HasSections config → other_state config < config.other_start → UsesReads config (tree_of config end call)
call_uses config end Tick has before = λ value. (
  at_no_index config (other_state config) (λ e. omega (arith, e)) (λ e. omega (arith, e)) ∙ sym (tick_uses config value (move_of end.handshake value)),
  after_tick_uses config (move_of end.handshake value),
)
call_uses config end Stop has before = (refl, tt)
call_uses config end (Offer frame) has before = choice config (in_run end.handshake.phase) (offer config (pending_of config end frame) end.freed) down (λ _. offer_uses config has (pending_of config end frame) end.freed) (refl, tt)
call_uses config end Poll has before = choice config (in_run end.handshake.phase) (poll config (length end.delivered) (is_last config end.found_none)) down (λ _. poll_uses config has (length end.delivered) (is_last config end.found_none)) (refl, tt)

-- The steps

step_uses : (config : EndConfig) (tree new : CallTree) (step : Step) → UsesReads config tree → Goes tree step new → ReadsForUse config step × UsesReads config new
step_uses config Ended new step uses goes = absurd goes
step_uses config (Does access marks rest) new step uses goes =
    (subst (λ (s : Step). ReadsForUse config s) (sym goes.0) uses.0, subst (λ (t : CallTree). UsesReads config t) (sym goes.1) uses.1)
step_uses config (Reads word marks rest) new step uses goes =
    (subst (λ (s : Step). ReadsForUse config s) (sym goes.1) (uses goes.0).0, subst (λ (t : CallTree). UsesReads config t) (sym goes.2) (uses goes.0).1)

steps_use : (config : EndConfig) (tree left : CallTree) (steps : List Step) → UsesReads config tree → GoesAlong tree steps left → All (ReadsForUse config) steps
steps_use config tree left [] uses along = All-nil (ReadsForUse config)
steps_use config tree left (step ∷ steps) uses along =
    let first = step_uses config tree along.0 step uses along.1 in
    All-cons (ReadsForUse config) step steps first.0 (steps_use config along.0 left steps first.1 along.2)

pub indexes_are_read_once : (config : EndConfig) (end : End) (call : Call) (steps : List Step) (left : CallTree) → HasSections config → other_state config < config.other_start →
    GoesAlong (tree_of config end call) steps left → All (ReadsForUse config) steps
indexes_are_read_once config end call steps left has before along = steps_use config (tree_of config end call) left steps (call_uses config end call has before) along
