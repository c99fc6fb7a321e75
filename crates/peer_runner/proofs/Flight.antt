-- The frames in flight of an honest peer, and the stores of its open offer.
use Rattle.std.proofs.Common.{◌≡◌, ℕ, zero, suc, ◌+◌, ◌-◌, ◌<◌, ◌≤◌, ◌⊎◌, inl, inr, ⊎_elim, Bool, true, false, List, [], ◌∷◌, ◌++◌, length, refl, sym, ap, ◌∙◌, subst, arith}
use Rattle.std.specs.Prelude.{◌==◌, if◌then◌else◌, Option, Some, None, ◌%◌}
use Rattle.split_ring.specs.declared.ranges.FieldName.TheVariants as field_name
use Rattle.split_ring.specs.Layout.{has_events}
use Rattle.split_ring.specs.Spelling.{low_half, high_half, desc_flags}
use Rattle.split_ring.specs.Ranges.{is_avail_entry, is_desc_address, is_desc_length, is_avail_index, is_desc_flags, is_used_index, is_used_id}
use Rattle.link_handshake.specs.declared.Phase.TheVariants.{Reset}
use Rattle.link_handshake.specs.declared.Move.{Move}
use Rattle.link_handshake.specs.declared.Move.TheVariants.{Stay, Set, ClearThenSet}
use Rattle.link_handshake.specs.HandshakeState.{move_of}
use Rattle.call_grammar.specs.Steps.{Mark, Reclaim, Full}
use Rattle.call_grammar.specs.Words.{words_for, address_of}
use Rattle.call_grammar.specs.Ends.{End, with_mark, with_marks, end_after}
use Rattle.call_grammar.specs.Calls.{EndConfig, Call, Tick, Stop, Offer, Poll, in_run, pending_of}
use Rattle.call_grammar.specs.Offers.{PendingOffer, frame_fits, descriptor_of, wants_doorbell, returned_by, refusal, full_marks, reclaim_marks}
use Rattle.call_grammar.specs.Polls.{entry_in, published_by, is_last}
use Rattle.call_grammar.specs.Places.{Place, step_at, Closed, ReadingOtherState, Clearing, Refusing, NotInRun, ReadingUsedIndex, ReadingUsedId, WritingFrameWord, WritingDescAddressLow, WritingDescAddressHigh, WritingDescLength, WritingDescFlags, WritingAvailEntry, WritingAvailIndex, ReadingAvailEvent, RingingOffer, ReadingAvailIndex, WritingAvailEvent, ReadingAvailEntry, ReadingDescAddressLow, ReadingDescAddressHigh, ReadingDescLength, ReadingDescFlags, ReadingFrameWord, WritingUsedIndex, clear_place, tick_place, fill_place, ids_place, notify_place, none_place, items_place, words_place, first_place, marks_at, next_place}
use Rattle.link_invariant.specs.Fields.{Field}
use Rattle.link_invariant.specs.LinkConfig.{LinkConfig, IsLinkConfig, section_of, config_of, fields}
use Rattle.link_invariant.specs.EndInvariant.{frame_at, start_in, Spelled, Opened, EndInvariant}
use Rattle.link_invariant.specs.Pair.{freed_at}
use Rattle.link_invariant.proofs.Fields.{fields_same}
use Rattle.link_invariant.proofs.EndObligations.{opened}
use Rattle.shared_words.specs.declared.run_setup.RunSetup.{RunSetup}
use Rattle.shared_words.specs.RunSetups.{link_config_of, honest_of, IsFit}
use Rattle.shared_words.specs.DerivedStates.{CallAccess, MemoryOp, called, DerivedState, begun_if, settled_place, derived_state}
use Rattle.shared_words.specs.SharedMemory.{OperationsMade}
use Rattle.peer_runner.specs.RunningLaws.{end_by, place_by, offered_at}
use Rattle.shared_words.proofs.FoldOfOperations.{standing_none}
use Rattle.shared_words.proofs.LinkOfSetup.{is_link_config}
use Rattle.peer_runner.proofs.EndsAlong.{alone_at, noted_written, place_before, Turn, along}

-- The origin of an offer.

-- No offer is open whose frame is to be accepted.
abbrev OffersNone : Place → Type 0
OffersNone place = offered_at (settled_place place) ≡ None

test_none : (b : Bool) (x y : Place) → OffersNone x → OffersNone y → OffersNone (if b then x else y)
test_none true x y mine opposite = mine
test_none false x y mine opposite = opposite

clear_none : (at count state : ℕ) → OffersNone (clear_place at count state)
unfolding settled_place
clear_none at zero state = refl
clear_none at (suc more) state = refl

tick_none : (config : EndConfig) (move : Move) → OffersNone (tick_place config move)
unfolding settled_place
tick_none config Stay = refl
tick_none config (Set state) = refl
tick_none config (ClearThenSet state) = clear_none config.own config.words state

pub report_none : (config : EndConfig) (number : ℕ) → OffersNone (notify_place config number)
unfolding settled_place
report_none config number = test_none (has_events config.sizes) (ReadingAvailEvent number) RingingOffer refl refl

items_none : (number count : ℕ) → OffersNone (items_place number count)
unfolding settled_place
items_none number zero = refl
items_none number (suc more) = refl

words_none : (number more entry address bytes : ℕ) (read : List ℕ) (count : ℕ) → OffersNone (words_place number more entry address bytes read count)
unfolding settled_place
words_none number more entry address bytes read zero = refl
words_none number more entry address bytes read (suc words) = refl

pub none_some : (pending : PendingOffer) → None ≡ Some pending → ⊥
none_some pending e = cc

-- A pending offer of the next place is the pending offer of the place before.
abbrev GoesOn : Place → Place → Type 0
GoesOn place next = (pending : PendingOffer) → offered_at (settled_place next) ≡ Some pending → offered_at place ≡ Some pending

on_none : (place next : Place) → OffersNone next → GoesOn place next
on_none place next none pending e = absurd (none_some pending (sym none ∙ e))

test_on : (place : Place) (b : Bool) (x y : Place) → GoesOn place x → GoesOn place y → GoesOn place (if b then x else y)
test_on place true x y mine opposite = mine
test_on place false x y mine opposite = opposite

fill_on : (place : Place) (pending : PendingOffer) (at count : ℕ) → offered_at place ≡ Some pending → GoesOn place (fill_place pending at count)
unfolding settled_place
fill_on place pending at zero is j e = is ∙ e
fill_on place pending at (suc more) is j e = is ∙ e

ids_on : (place : Place) (config : EndConfig) (pending : PendingOffer) (freed count : ℕ) → offered_at place ≡ Some pending → GoesOn place (ids_place config pending freed count)
unfolding settled_place
ids_on place config pending freed zero is = test_on place (frame_fits config pending freed) (fill_place pending 0 (words_for (length pending.frame))) Closed (fill_on place pending 0 (words_for (length pending.frame)) is) (on_none place Closed refl)
ids_on place config pending freed (suc more) is = λ j e. is ∙ e

pub goes_on : (config : EndConfig) (place : Place) (value : ℕ) → GoesOn place (next_place config place value)
unfolding settled_place
goes_on config (ReadingOtherState handshake) value = on_none (ReadingOtherState handshake) (tick_place config (move_of handshake value)) (tick_none config (move_of handshake value))
goes_on config (Clearing at more state) value = on_none (Clearing at more state) (clear_place (at + 1) more state) (clear_none (at + 1) more state)
goes_on config (ReadingUsedIndex pending freed) value = test_on (ReadingUsedIndex pending freed) (is_used_index (freed % 65536) (high_half value) (pending.number - freed)) (ids_place config pending freed (returned_by freed value)) Refusing
    (ids_on (ReadingUsedIndex pending freed) config pending freed (returned_by freed value) refl) (on_none (ReadingUsedIndex pending freed) Refusing refl)
goes_on config (ReadingUsedId pending freed more) value = test_on (ReadingUsedId pending freed more) (is_used_id (descriptor_of config freed) value) (ids_place config pending (freed + 1) more) Refusing
    (ids_on (ReadingUsedId pending freed more) config pending (freed + 1) more refl) (on_none (ReadingUsedId pending freed more) Refusing refl)
goes_on config (WritingFrameWord pending at more) value = fill_on (WritingFrameWord pending at more) pending (at + 1) more refl
goes_on config (WritingDescAddressLow pending) value = λ j e. e
goes_on config (WritingDescAddressHigh pending) value = λ j e. e
goes_on config (WritingDescLength pending) value = λ j e. e
goes_on config (WritingDescFlags pending) value = λ j e. e
goes_on config (WritingAvailEntry pending) value = λ j e. e
goes_on config (WritingAvailIndex pending) value = on_none (WritingAvailIndex pending) (notify_place config pending.number) (report_none config pending.number)
goes_on config (ReadingAvailEvent number) value = on_none (ReadingAvailEvent number) (next_place config (ReadingAvailEvent number) value) (test_none (wants_doorbell (low_half value) number) RingingOffer Closed refl refl)
goes_on config (ReadingAvailIndex taken last) value = on_none (ReadingAvailIndex taken last) (next_place config (ReadingAvailIndex taken last) value) (test_none (is_avail_index config.sizes (taken % 65536) (high_half value)) (if published_by taken value == 0 then none_place taken last else items_place taken (published_by taken value)) Refusing
    (test_none (published_by taken value == 0) (none_place taken last) (items_place taken (published_by taken value)) (test_none last Closed (WritingAvailEvent taken) refl refl) (items_none taken (published_by taken value))) refl)
goes_on config (ReadingAvailEntry number more) value = on_none (ReadingAvailEntry number more) (next_place config (ReadingAvailEntry number more) value) (test_none (is_avail_entry config.sizes (entry_in config number value)) (ReadingDescAddressLow number more (entry_in config number value)) Refusing refl refl)
goes_on config (ReadingDescAddressHigh number more entry low) value = on_none (ReadingDescAddressHigh number more entry low) (next_place config (ReadingDescAddressHigh number more entry low) value) (test_none (is_desc_address config.sizes (address_of low value)) (ReadingDescLength number more entry (address_of low value)) Refusing refl refl)
goes_on config (ReadingDescLength number more entry address) value = on_none (ReadingDescLength number more entry address) (next_place config (ReadingDescLength number more entry address) value) (test_none (is_desc_length config.sizes address value) (ReadingDescFlags number more entry address value) Refusing refl refl)
goes_on config (ReadingDescFlags number more entry address bytes) value = on_none (ReadingDescFlags number more entry address bytes) (next_place config (ReadingDescFlags number more entry address bytes) value) (test_none (is_desc_flags (desc_flags value)) (words_place number more entry address bytes [] (words_for bytes)) Refusing (words_none number more entry address bytes [] (words_for bytes)) refl)
goes_on config (ReadingFrameWord number more entry address bytes read words) value = on_none (ReadingFrameWord number more entry address bytes read words) (words_place number more entry address bytes (read ++ value ∷ []) words) (words_none number more entry address bytes (read ++ value ∷ []) words)
goes_on config (WritingUsedIndex number more) value = on_none (WritingUsedIndex number more) (items_place (number + 1) more) (items_none (number + 1) more)
goes_on config place value = on_none place (next_place config place value) refl

-- The number of ids that an offer has read.

none_of : (o : Option PendingOffer) → ((pending : PendingOffer) → o ≡ Some pending → ⊥) → o ≡ None
none_of None none = refl
none_of (Some pending) none = absurd (none pending refl)

freed_none : (x : ℕ) (place : Place) → offered_at place ≡ None → freed_at x place ≡ x
freed_none x (ReadingUsedId pending freed more) e = absurd (none_some pending (sym e))
freed_none x place e = refl

-- The number of ids read changes at these places alone.
abbrev Counts : Place → ℕ → Type 0
Counts (ReadingUsedIndex pending freed) n = n ≡ freed
Counts (ReadingUsedId pending freed more) n = n ≡ freed + 1
Counts place n = ⊥

abbrev FreedOn : ℕ → ℕ → Place → Type 0
FreedOn x n next = (freed_at x (settled_place next) ≡ x) ⊎ (freed_at x (settled_place next) ≡ n)

test_freed : (x n : ℕ) (b : Bool) (y z : Place) → FreedOn x n y → FreedOn x n z → FreedOn x n (if b then y else z)
test_freed x n true y z mine opposite = mine
test_freed x n false y z mine opposite = opposite

fill_freed : (x : ℕ) (pending : PendingOffer) (at count : ℕ) → freed_at x (settled_place (fill_place pending at count)) ≡ x
unfolding settled_place
fill_freed x pending at zero = refl
fill_freed x pending at (suc more) = refl

ids_freed : (x : ℕ) (config : EndConfig) (pending : PendingOffer) (freed count : ℕ) → FreedOn x freed (ids_place config pending freed count)
unfolding settled_place
ids_freed x config pending freed zero = test_freed x freed (frame_fits config pending freed) (fill_place pending 0 (words_for (length pending.frame))) Closed (inl (fill_freed x pending 0 (words_for (length pending.frame)))) (inl refl)
ids_freed x config pending freed (suc more) = inr refl

freed_on : (config : EndConfig) (place : Place) (value x : ℕ) → (freed_at x (settled_place (next_place config place value)) ≡ x) ⊎ Counts place (freed_at x (settled_place (next_place config place value)))
unfolding settled_place
freed_on config (ReadingUsedIndex pending freed) value x = test_freed x freed (is_used_index (freed % 65536) (high_half value) (pending.number - freed)) (ids_place config pending freed (returned_by freed value)) Refusing (ids_freed x config pending freed (returned_by freed value)) (inl refl)
freed_on config (ReadingUsedId pending freed more) value x = test_freed x (freed + 1) (is_used_id (descriptor_of config freed) value) (ids_place config pending (freed + 1) more) Refusing (ids_freed x config pending (freed + 1) more) (inl refl)
freed_on config (WritingFrameWord pending at more) value x = inl (fill_freed x pending (at + 1) more)
freed_on config (WritingDescAddressLow pending) value x = inl refl
freed_on config (WritingDescAddressHigh pending) value x = inl refl
freed_on config (WritingDescLength pending) value x = inl refl
freed_on config (WritingDescFlags pending) value x = inl refl
freed_on config (WritingAvailEntry pending) value x = inl refl
freed_on config (WritingAvailIndex pending) value x = inl (freed_none x (settled_place (notify_place config pending.number)) (report_none config pending.number))
freed_on config place value x = inl (freed_none x (settled_place (next_place config place value)) (none_of (offered_at (settled_place (next_place config place value))) (λ pending e. none_some pending (goes_on config place value pending e))))

test_same : (x : ℕ) (b : Bool) (y z : Place) → freed_at x y ≡ x → freed_at x z ≡ x → freed_at x (if b then y else z) ≡ x
test_same x true y z mine opposite = mine
test_same x false y z mine opposite = opposite

first_freed : (x : ℕ) (config : EndConfig) (end : End) (call : Call) → freed_at x (first_place config end call) ≡ x
first_freed x config end Tick = refl
first_freed x config end Stop = refl
first_freed x config end (Offer frame) = test_same x (in_run end.handshake.phase) (ReadingUsedIndex (pending_of config end frame) end.freed) NotInRun refl refl
first_freed x config end Poll = test_same x (in_run end.handshake.phase) (ReadingAvailIndex (length end.delivered) (is_last config end.found_none)) NotInRun refl refl

-- As it reads them, an offer accepts nothing and writes nothing.
abbrev AcceptsNone : List Mark → Type 0
AcceptsNone marks = (end : End) → (with_marks end marks).accepted ≡ end.accepted

test_accepts : (b : Bool) (x y : List Mark) → AcceptsNone x → AcceptsNone y → AcceptsNone (if b then x else y)
test_accepts true x y mine opposite = mine
test_accepts false x y mine opposite = opposite

full_accepts : (config : EndConfig) (pending : PendingOffer) (freed : ℕ) → AcceptsNone (full_marks config pending freed)
full_accepts config pending freed = test_accepts (frame_fits config pending freed) [] (Full ∷ []) (λ end. refl) (λ end. refl)

reclaim_accepts : (config : EndConfig) (pending : PendingOffer) (freed count : ℕ) → AcceptsNone (reclaim_marks config pending freed count)
reclaim_accepts config pending freed count = test_accepts (count == 0) (Reclaim 0 ∷ full_marks config pending freed) (Reclaim count ∷ []) (λ end. full_accepts config pending freed (with_mark end (Reclaim 0))) (λ end. refl)

reads_accept : (config : EndConfig) (place : Place) (value n : ℕ) → Counts place n → AcceptsNone (marks_at config place value)
reads_accept config (ReadingUsedIndex pending freed) value n c = test_accepts (is_used_index (freed % 65536) (high_half value) (pending.number - freed)) (reclaim_marks config pending freed (returned_by freed value)) (refusal field_name.UsedIndex (high_half value))
    (reclaim_accepts config pending freed (returned_by freed value)) (λ end. refl)
reads_accept config (ReadingUsedId pending freed more) value n c = test_accepts (is_used_id (descriptor_of config freed) value) (if more == 0 then full_marks config pending (freed + 1) else []) (refusal field_name.UsedId value)
    (test_accepts (more == 0) (full_marks config pending (freed + 1)) [] (full_accepts config pending (freed + 1)) (λ end. refl)) (λ end. refl)
reads_accept config place value n c = absurd c

reads_keep : (config : EndConfig) (end : End) (place : Place) (value n : ℕ) → Counts place n → ((end_after end (step_at config place value)).accepted ≡ end.accepted) × ((end_after end (step_at config place value)).written ≡ end.written)
reads_keep config end (ReadingUsedIndex pending freed) value n c = let place = ReadingUsedIndex pending freed in (reads_accept config place value n c end, noted_written end (marks_at config place value))
reads_keep config end (ReadingUsedId pending freed more) value n c = let place = ReadingUsedId pending freed more in (reads_accept config place value n c end, noted_written end (marks_at config place value))
reads_keep config end place value n c = absurd c

-- Frames in flight

abbrev pub SpelledFrom : LinkConfig → (ℕ → ℕ) → ℕ → List (List ℕ) → ℕ → Type 0
SpelledFrom link_config memory p accepted from = (k : ℕ) → from ≤ k → k < length accepted → Spelled link_config (fields link_config memory p) k (start_in link_config accepted k) (frame_at accepted k)

pub spelled_same : (link_config : LinkConfig) (memory after : ℕ → ℕ) (p from : ℕ) (accepted : List (List ℕ)) → IsLinkConfig link_config → ((j : ℕ) → j < link_config.words → after (section_of link_config p + j) ≡ memory (section_of link_config p + j)) → SpelledFrom link_config memory p accepted from → SpelledFrom link_config after p accepted from
spelled_same link_config memory after p from accepted is same s k low high = subst (λ (f : Field → ℕ). Spelled link_config f k (start_in link_config accepted k) (frame_at accepted k)) (λ i field. sym (fields_same link_config memory after p is same field) i) (s k low high)

-- Those from the ids read on.
counted_from : (link_config : LinkConfig) (memory : ℕ → ℕ) (p : ℕ) (end : End) (place : Place) (n : ℕ) → Counts place n → EndInvariant link_config memory p end place → SpelledFrom link_config memory p end.accepted (freed_at end.freed place) → SpelledFrom link_config memory p end.accepted n
counted_from link_config memory p end (ReadingUsedIndex pending freed) n c a s k low high = s k (let f = a.holds.2 in omega arith) high
counted_from link_config memory p end (ReadingUsedId pending freed more) n c a s k low high = s k (omega arith) high
counted_from link_config memory p end place n c a s k low high = absurd c

counts_open : (link_config : LinkConfig) (memory : ℕ → ℕ) (p : ℕ) (end : End) (place : Place) (n : ℕ) → Counts place n → EndInvariant link_config memory p end place → Opened end.handshake.phase
counts_open link_config memory p end (ReadingUsedIndex pending freed) n c a = opened a.holds.0
counts_open link_config memory p end (ReadingUsedId pending freed more) n c a = opened a.holds.0
counts_open link_config memory p end place n c a = absurd c

module _ (key : RunSetup) (fit : IsFit key) (p : ℕ) (hp : honest_of key p ≡ true) where
  -- By what the end wrote last.
  abbrev InFlightAt : End → Place → Type 0
  InFlightAt end place = Opened end.handshake.phase → SpelledFrom (link_config_of key) end.written p end.accepted (freed_at end.freed place)

  abbrev InFlight : List (MemoryOp CallAccess) → Type 0
  InFlight l = InFlightAt (derived_state key p l).end (derived_state key p l).place

  -- A call that begins has read no id.
  before_call : (memory : ℕ → ℕ) (end : End) (s : DerivedState) (call : Option Call) → s.end ≡ end → Opened end.handshake.phase → EndInvariant (link_config_of key) memory p end (begun_if (config_of (link_config_of key) p) s call).place →
      SpelledFrom (link_config_of key) memory p end.accepted (freed_at end.freed s.place) → SpelledFrom (link_config_of key) memory p end.accepted (freed_at end.freed (begun_if (config_of (link_config_of key) p) s call).place)
  before_call memory end s None e o a was = was
  before_call memory end s (Some call) e o a was = λ k low high. (a.sent o).spelled k (let f = first_freed end.freed (config_of (link_config_of key) p) s.end call in omega arith) high

  flight_more : (memory after words : ℕ → ℕ) (acc next : ℕ → List (MemoryOp CallAccess)) (t : CallAccess) → OperationsMade key memory words acc → OperationsMade key after words next → next p ≡ acc p ++ called t ∷ [] → Turn key p memory after (acc p) t → InFlight (acc p) → InFlight (acc p ++ called t ∷ [])
  flight_more memory after words acc next t k m here turn was open' = let link_config = link_config_of key in let config = config_of link_config p in let is = is_link_config key fit in let place = place_before key p (acc p) t in let end = end_by key acc p in
      let s = derived_state key p (acc p ++ called t ∷ []) in
      let now : EndInvariant link_config after p s.end s.place = subst (λ l. EndInvariant link_config after p (derived_state key p l).end (derived_state key p l).place) here (alone_at key fit after words next m p hp) in
      ⊎_elim
      (λ same. let e : freed_at s.end.freed s.place ≡ s.end.freed = ap (freed_at s.end.freed) turn.next_place ∙ same in
      spelled_same link_config after s.end.written p (freed_at s.end.freed s.place) s.end.accepted is (λ j lt. sym (now.written j lt)) (λ k low high. (now.sent open').spelled k (omega arith) high))
      (λ counts. let n = freed_at s.end.freed (settled_place (next_place config place t.value)) in
      let keep = reads_keep config end place t.value n counts in
      let accepted : s.end.accepted ≡ end.accepted = ap (λ (x : End). x.accepted) turn.next_end ∙ keep.0 in
      let written : s.end.written ≡ end.written = ap (λ (x : End). x.written) turn.next_end ∙ keep.1 in
      let o = counts_open link_config memory p end place n counts turn.alone in
      let old : SpelledFrom link_config memory p end.accepted (freed_at end.freed (place_by key acc p)) = spelled_same link_config end.written memory p (freed_at end.freed (place_by key acc p)) end.accepted is turn.alone.written (was o) in
      let from : SpelledFrom link_config memory p end.accepted n = counted_from link_config memory p end place n counts turn.alone (before_call memory end (derived_state key p (acc p)) t.begins refl o turn.alone old) in
      let back : SpelledFrom link_config end.written p end.accepted n = spelled_same link_config memory end.written p n end.accepted is (λ j lt. sym (turn.alone.written j lt)) from in
      subst (λ x. SpelledFrom link_config s.end.written p s.end.accepted (freed_at s.end.freed x)) (sym turn.next_place)
      (subst (λ w. SpelledFrom link_config w p s.end.accepted n) (sym written) (subst (λ l. SpelledFrom link_config end.written p l n) (sym accepted) back)))
      (freed_on config place t.value s.end.freed)

  pub flight_is : (memory words : ℕ → ℕ) (acc : ℕ → List (MemoryOp CallAccess)) → OperationsMade key memory words acc → InFlight (acc p)
  flight_is = along key fit p hp InFlight (λ o. absurd (let none : Opened Reset = subst (λ (s : DerivedState). Opened s.end.handshake.phase) (standing_none key p) o in none)) flight_more
      (λ list d quiet was. subst (InFlightAt (derived_state key p (list ++ d ∷ [])).end) (sym quiet.place) (subst (λ (e : End). InFlightAt e (derived_state key p list).place) (sym quiet.end) was))
      (λ memory after list reset was o. absurd (let none : Opened Reset = subst (λ (e : End). Opened e.handshake.phase) reset.end o in none))
