-- A doorbell that a running peer requested is rung. The invariant of two honest ends has the
-- requests of one and what the other missed.
use Rattle.std.proofs.Common.{◌≡◌, ◌≢◌, ℕ, zero, suc, ◌+◌, ◌-◌, ◌≤◌, ◌⊎◌, inl, inr, ⊎_elim, Bool, true, false, List, [], ◌∷◌, ◌++◌, length, length-append, refl, sym, ap, ◌∙◌, subst, arith, eq-eqb, ne_eqb}
use Rattle.std.specs.Prelude.{◌==◌, nat_le, if◌then◌else◌, Contains, ◌%◌}
use Rattle.std.proofs.lemmas.List.Elements.{Contains-append_cases}
use Rattle.split_ring.specs.declared.steps.Access.{Access}
use Rattle.split_ring.specs.declared.steps.Access.TheVariants as access
use Rattle.split_ring.specs.Layout.{has_events, size_of}
use Rattle.split_ring.specs.Ranges.{is_avail_entry, is_desc_address, is_desc_length, is_avail_index, is_desc_flags, is_used_id, is_used_index}
use Rattle.split_ring.specs.Spelling.{low_half, high_half, desc_flags}
use Rattle.split_ring.specs.declared.ranges.FieldName.TheVariants as field_name
use Rattle.link_handshake.specs.declared.Move.{Move}
use Rattle.link_handshake.specs.declared.Move.TheVariants.{Stay, Set, ClearThenSet}
use Rattle.link_handshake.specs.HandshakeState.{move_of}
use Rattle.call_grammar.specs.Steps.{Mark, Reclaim, Full, Accept, Look, Deliver, Return, Done, Over}
use Rattle.call_grammar.specs.Ends.{End, with_access, with_mark, with_marks, end_after}
use Rattle.call_grammar.specs.Calls.{EndConfig, Call, Tick, Stop, Offer, Poll, in_run, pending_of}
use Rattle.call_grammar.specs.Ticks.{tick_marks}
use Rattle.call_grammar.specs.Words.{words_for, address_of, frame_in}
use Rattle.call_grammar.specs.Offers.{PendingOffer, frame_fits, wants_doorbell, refusal, full_marks, returned_by, reclaim_marks, used_index_marks, used_id_marks, descriptor_of}
use Rattle.call_grammar.specs.Polls.{entry_in, published_by, is_last, look_marks}
use Rattle.shared_words.specs.DerivedStates.{FrameNumber, DoorbellRequest, Nowhere, Written, At, request_after_access, lapsed, request_after_look, request_after_mark, request_after_marks, missed_by, Wake, wake_after}
use Rattle.call_grammar.specs.Places.{Place, Closed, ReadingOtherState, Clearing, WritingState, Refusing, NotInRun, ReadingUsedIndex, ReadingUsedId, WritingFrameWord, WritingAvailIndex, ReadingAvailEvent, RingingOffer, ReadingAvailIndex, WritingAvailEvent, ReadingAvailEntry, ReadingDescAddressLow, ReadingDescAddressHigh, ReadingDescLength, ReadingDescFlags, ReadingFrameWord, WritingUsedIndex, RingingPoll, first_place, access_at, next_place, marks_at, step_at, is_open, clear_place, tick_place, fill_place, ids_place, none_place, items_place, words_place}

-- The steps that change the requests and the missed frames.

-- Marks without a look. Marks without a look of which the first isn't the end of a call.
abbrev pub HasNoLook : List Mark → Type 0
HasNoLook [] = Unit {0}
HasNoLook (Look count ∷ marks) = ⊥
HasNoLook (mark ∷ marks) = HasNoLook marks

abbrev pub IsPlain : List Mark → Type 0
IsPlain [] = Unit {0}
IsPlain (Look count ∷ marks) = ⊥
IsPlain (Over ∷ marks) = ⊥
IsPlain (mark ∷ marks) = HasNoLook marks

no_look_if : (b : Bool) (m n : List Mark) → HasNoLook m → HasNoLook n → HasNoLook (if b then m else n)
no_look_if true m n mine opposite = mine
no_look_if false m n mine opposite = opposite

plain_if : (b : Bool) (m n : List Mark) → IsPlain m → IsPlain n → IsPlain (if b then m else n)
plain_if true m n mine opposite = mine
plain_if false m n mine opposite = opposite

plain_tick : (value : ℕ) (move : Move) → IsPlain (tick_marks value move)
plain_tick value Stay = tt
plain_tick value (Set state) = tt
plain_tick value (ClearThenSet state) = tt

plain_full : (config : EndConfig) (pending : PendingOffer) (freed : ℕ) → IsPlain (full_marks config pending freed)
plain_full config pending freed = plain_if (frame_fits config pending freed) [] (Full ∷ []) tt tt

plain_used : (config : EndConfig) (pending : PendingOffer) (freed value : ℕ) → IsPlain (used_index_marks config pending freed value)
plain_used config pending freed value = let d = returned_by freed value in plain_if (is_used_index (freed % 65536) (high_half value) (pending.number - freed)) (reclaim_marks config pending freed d) (refusal field_name.UsedIndex (high_half value))
    (plain_if (d == 0) (Reclaim 0 ∷ full_marks config pending freed) (Reclaim d ∷ []) (no_look_if (frame_fits config pending freed) [] (Full ∷ []) tt tt) tt) tt

plain_id : (config : EndConfig) (pending : PendingOffer) (freed more value : ℕ) → IsPlain (used_id_marks config pending freed more value)
plain_id config pending freed more value = plain_if (is_used_id (descriptor_of config freed) value) (if more == 0 then full_marks config pending (freed + 1) else []) (refusal field_name.UsedId value)
    (plain_if (more == 0) (full_marks config pending (freed + 1)) [] (plain_full config pending (freed + 1)) tt) tt

-- Marks without a look, one after another.
abbrev pub lapsed_by : List Mark → DoorbellRequest → DoorbellRequest
lapsed_by [] a = a
lapsed_by (mark ∷ marks) a = lapsed_by marks (lapsed a)

pub lapsed_not : (a : DoorbellRequest) → lapsed a ≢ Written
lapsed_not Nowhere = λ e. cc
lapsed_not Written = λ e. cc
lapsed_not (At frame) = λ e. cc

pub lapsed_free : (a : DoorbellRequest) → a ≢ Written → lapsed a ≡ a
lapsed_free Nowhere ne = refl
lapsed_free Written ne = absurd (ne refl)
lapsed_free (At frame) ne = refl

pub lapsed_again : (a : DoorbellRequest) → lapsed (lapsed a) ≡ lapsed a
lapsed_again Nowhere = refl
lapsed_again Written = refl
lapsed_again (At frame) = refl

pub lapsed_by_free : (marks : List Mark) (a : DoorbellRequest) → a ≢ Written → lapsed_by marks a ≡ a
lapsed_by_free [] a ne = refl
lapsed_by_free (mark ∷ marks) a ne = lapsed_by_free marks (lapsed a) (lapsed_not a) ∙ lapsed_free a ne

pub no_look_asked : (next : FrameNumber) (a : DoorbellRequest) (marks : List Mark) → HasNoLook marks → request_after_marks next a marks ≡ lapsed_by marks a
no_look_asked next a [] is = refl
no_look_asked next a (Look count ∷ marks) is = absurd is
no_look_asked next a (mark ∷ marks) is = no_look_asked next (lapsed a) marks is

plain_none : (marks : List Mark) → IsPlain marks → HasNoLook marks
plain_none [] is = tt
plain_none (Look count ∷ marks) is = absurd is
plain_none (Over ∷ marks) is = absurd is
plain_none (mark ∷ marks) is = is

pub plain_asked : (next : FrameNumber) (a : DoorbellRequest) (marks : List Mark) → IsPlain marks → request_after_marks next a marks ≡ lapsed_by marks a
plain_asked next a marks is = no_look_asked next a marks (plain_none marks is)

pub plain_missed : (n : FrameNumber) (was : List FrameNumber) (marks : List Mark) → IsPlain marks → missed_by n was marks ≡ was
plain_missed n was [] is = refl
plain_missed n was (Over ∷ marks) is = absurd is
plain_missed n was (mark ∷ marks) is = refl

-- The places at whose steps anything changes.
abbrev is_waking : Place → Bool
is_waking (WritingState state) = true
is_waking Refusing = true
is_waking (ReadingAvailEvent number) = true
is_waking (ReadingAvailIndex taken last) = true
is_waking place = false

pub plain_marks : (config : EndConfig) (place : Place) (value : ℕ) → is_waking place ≡ false → place ≢ RingingOffer → IsPlain (marks_at config place value)
plain_marks config (WritingState state) value is ne = absurd (cc)
plain_marks config Refusing value is ne = absurd (cc)
plain_marks config (ReadingAvailEvent number) value is ne = absurd (cc)
plain_marks config (ReadingAvailIndex taken last) value is ne = absurd (cc)
plain_marks config RingingOffer value is ne = absurd (ne refl)
plain_marks config (ReadingOtherState handshake) value is ne = plain_tick value (move_of handshake value)
plain_marks config (ReadingUsedIndex pending freed) value is ne = plain_used config pending freed value
plain_marks config (ReadingUsedId pending freed more) value is ne = plain_id config pending freed more value
plain_marks config (ReadingAvailEntry number more) value is ne = plain_if (is_avail_entry config.sizes (entry_in config number value)) [] (refusal field_name.AvailEntry (entry_in config number value)) tt tt
plain_marks config (ReadingDescAddressHigh number more entry low) value is ne = plain_if (is_desc_address config.sizes (address_of low value)) [] (refusal field_name.DescAddress (address_of low value)) tt tt
plain_marks config (ReadingDescLength number more entry address) value is ne = plain_if (is_desc_length config.sizes address value) [] (refusal field_name.DescLength value) tt tt
plain_marks config (ReadingDescFlags number more entry address bytes) value is ne = plain_if (is_desc_flags (desc_flags value)) [] (refusal field_name.DescFlags (desc_flags value)) tt tt
plain_marks config (ReadingFrameWord number more entry address bytes read words) value is ne = plain_if (words == 0) (Deliver (frame_in bytes (read ++ value ∷ [])) ∷ []) [] tt tt
plain_marks config place value is ne = tt

-- An access to a word.
pub plain_wake_missed : (event : ℕ) (n m : FrameNumber) (w : Wake) (a : Access) (marks : List Mark) → IsPlain marks → (wake_after event n m w a marks).missed ≡ w.missed
plain_wake_missed event n m w (access.Read word) marks is = plain_missed n w.missed marks is
plain_wake_missed event n m w (access.State state) marks is = refl
plain_wake_missed event n m w (access.Write word written) marks is = refl
plain_wake_missed event n m w (access.Ring target vector) marks is = refl
plain_wake_missed event n m w access.Nothing marks is = refl

kept_missed : (config : EndConfig) (event : ℕ) (n m : FrameNumber) (w : Wake) (place : Place) (value : ℕ) → is_waking place ≡ false → (wake_after event n m w (access_at config place) (marks_at config place value)).missed ≡ w.missed
kept_missed config event n m w (WritingState state) value is = absurd (cc)
kept_missed config event n m w Refusing value is = absurd (cc)
kept_missed config event n m w RingingOffer value is = refl
kept_missed config event n m w place value is = plain_wake_missed event n m w (access_at config place) (marks_at config place value) (plain_marks config place value is (λ e. cc))

-- The place after a step.

-- The step leads to no look, no write of the own event, and no read of the other's.
abbrev pub is_still : Place → Bool
is_still (WritingAvailEvent taken) = false
is_still (ReadingAvailEvent number) = false
is_still (ReadingAvailIndex taken last) = false
is_still place = true

still_if : (b : Bool) (x y : Place) → is_still x ≡ true → is_still y ≡ true → is_still (if b then x else y) ≡ true
still_if true x y mine opposite = mine
still_if false x y mine opposite = opposite

clear_still : (at count state : ℕ) → is_still (clear_place at count state) ≡ true
clear_still at zero state = refl
clear_still at (suc more) state = refl

tick_still : (config : EndConfig) (move : Move) → is_still (tick_place config move) ≡ true
tick_still config Stay = refl
tick_still config (Set state) = refl
tick_still config (ClearThenSet state) = clear_still config.own config.words state

fill_still : (pending : PendingOffer) (at count : ℕ) → is_still (fill_place pending at count) ≡ true
fill_still pending at zero = refl
fill_still pending at (suc more) = refl

ids_still : (config : EndConfig) (pending : PendingOffer) (freed count : ℕ) → is_still (ids_place config pending freed count) ≡ true
ids_still config pending freed zero = still_if (frame_fits config pending freed) (fill_place pending 0 (words_for (length pending.frame))) Closed (fill_still pending 0 (words_for (length pending.frame))) refl
ids_still config pending freed (suc more) = refl

items_still : (number count : ℕ) → is_still (items_place number count) ≡ true
items_still number zero = refl
items_still number (suc more) = refl

words_still : (number more entry address bytes : ℕ) (read : List ℕ) (count : ℕ) → is_still (words_place number more entry address bytes read count) ≡ true
words_still number more entry address bytes read zero = refl
words_still number more entry address bytes read (suc words) = refl

-- But from a look, the write of the own event and that of an index.
abbrev pub goes_still : Place → Bool
goes_still (WritingAvailIndex pending) = false
goes_still (ReadingAvailIndex taken last) = false
goes_still (WritingAvailEvent taken) = false
goes_still place = true

pub next_still : (config : EndConfig) (place : Place) (value : ℕ) → goes_still place ≡ true → is_still (next_place config place value) ≡ true
next_still config (WritingAvailIndex pending) value is = absurd (cc)
next_still config (ReadingAvailIndex taken last) value is = absurd (cc)
next_still config (WritingAvailEvent taken) value is = absurd (cc)
next_still config (ReadingOtherState handshake) value is = tick_still config (move_of handshake value)
next_still config (Clearing at more state) value is = clear_still (at + 1) more state
next_still config (ReadingUsedIndex pending freed) value is = let d = returned_by freed value in still_if (is_used_index (freed % 65536) (high_half value) (pending.number - freed)) (ids_place config pending freed d) Refusing (ids_still config pending freed d) refl
next_still config (ReadingUsedId pending freed more) value is = still_if (is_used_id (descriptor_of config freed) value) (ids_place config pending (freed + 1) more) Refusing (ids_still config pending (freed + 1) more) refl
next_still config (WritingFrameWord pending at more) value is = fill_still pending (at + 1) more
next_still config (ReadingAvailEvent number) value is = still_if (wants_doorbell (low_half value) number) RingingOffer Closed refl refl
next_still config (ReadingAvailEntry number more) value is = let e = entry_in config number value in still_if (is_avail_entry config.sizes e) (ReadingDescAddressLow number more e) Refusing refl refl
next_still config (ReadingDescAddressHigh number more entry low) value is = let x = address_of low value in still_if (is_desc_address config.sizes x) (ReadingDescLength number more entry x) Refusing refl refl
next_still config (ReadingDescLength number more entry address) value is = still_if (is_desc_length config.sizes address value) (ReadingDescFlags number more entry address value) Refusing refl refl
next_still config (ReadingDescFlags number more entry address bytes) value is = still_if (is_desc_flags (desc_flags value)) (words_place number more entry address bytes [] (words_for bytes)) Refusing (words_still number more entry address bytes [] (words_for bytes)) refl
next_still config (ReadingFrameWord number more entry address bytes read words) value is = words_still number more entry address bytes (read ++ value ∷ []) words
next_still config (WritingUsedIndex number more) value is = items_still (number + 1) more
next_still config place value is = refl

-- The frame accepted last waits for the read of its event.
abbrev pub unpublished : Place → ℕ
unpublished (ReadingAvailEvent number) = 1
unpublished place = 0

pub still_pending : (place : Place) → is_still place ≡ true → unpublished place ≡ 0
still_pending (ReadingAvailEvent number) is = absurd (cc)
still_pending place is = refl

pub pending_most : (place : Place) → unpublished place ≤ 1
pending_most (ReadingAvailEvent number) = omega arith
pending_most place = omega arith

-- The request of an end at its place. If it wrote its event word, it has ended no call, accepted no
-- frame and returned no frame since. Before a look the event is set.

abbrev pub AsksAt : (Stands : ℕ → Type 0) → DoorbellRequest → Place → Type 0
AsksAt Stands a Closed = a ≢ Written
AsksAt Stands a NotInRun = a ≢ Written
AsksAt Stands a RingingOffer = a ≢ Written
AsksAt Stands a RingingPoll = a ≢ Written
AsksAt Stands a (ReadingAvailEvent number) = a ≢ Written
AsksAt Stands a (ReadingAvailIndex taken last) = a ≡ Written → Stands taken
AsksAt Stands a place = Unit {0}

pub free_asks : (Stands : ℕ → Type 0) (a : DoorbellRequest) (place : Place) → a ≢ Written → AsksAt Stands a place
free_asks Stands a Closed ne = ne
free_asks Stands a NotInRun ne = ne
free_asks Stands a RingingOffer ne = ne
free_asks Stands a RingingPoll ne = ne
free_asks Stands a (ReadingAvailEvent number) ne = ne
free_asks Stands a (ReadingAvailIndex taken last) ne = λ e. absurd (ne e)
free_asks Stands a place ne = tt

asks_if : (Stands : ℕ → Type 0) (a : DoorbellRequest) (b : Bool) (x y : Place) → AsksAt Stands a x → AsksAt Stands a y → AsksAt Stands a (if b then x else y)
asks_if Stands a true x y mine opposite = mine
asks_if Stands a false x y mine opposite = opposite

clear_asks : (Stands : ℕ → Type 0) (a : DoorbellRequest) (at count state : ℕ) → AsksAt Stands a (clear_place at count state)
clear_asks Stands a at zero state = tt
clear_asks Stands a at (suc more) state = tt

fill_asks : (Stands : ℕ → Type 0) (a : DoorbellRequest) (pending : PendingOffer) (at count : ℕ) → AsksAt Stands a (fill_place pending at count)
fill_asks Stands a pending at zero = tt
fill_asks Stands a pending at (suc more) = tt

words_asks : (Stands : ℕ → Type 0) (a : DoorbellRequest) (number more entry address bytes : ℕ) (read : List ℕ) (count : ℕ) → AsksAt Stands a (words_place number more entry address bytes read count)
words_asks Stands a number more entry address bytes read zero = tt
words_asks Stands a number more entry address bytes read (suc words) = tt

pub first_pending : (config : EndConfig) (end : End) (call : Call) → unpublished (first_place config end call) ≡ 0
first_pending config end Tick = refl
first_pending config end Stop = refl
first_pending config end (Offer frame) = elim (in_run end.handshake.phase) as (λ b. unpublished (if b then ReadingUsedIndex (pending_of config end frame) end.freed else NotInRun) ≡ 0) [ true ↦ refl | false ↦ refl ]
first_pending config end Poll = elim (in_run end.handshake.phase) as (λ b. unpublished (if b then ReadingAvailIndex (length end.delivered) (is_last config end.found_none) else NotInRun) ≡ 0) [ true ↦ refl | false ↦ refl ]

pub more_than : (d : ℕ) → (suc d == 0) ≡ false
more_than d = ne_eqb (suc d) 0 (λ e. omega arith)

abbrev pub empty_marks : Bool → List Mark
empty_marks last = if last then Look 0 ∷ Done ∷ [] else Look 0 ∷ []

-- After a mark nothing is written.

look_free : (next : FrameNumber) (a : DoorbellRequest) (count : ℕ) → request_after_look next a count ≢ Written
look_free next Nowhere zero = λ e. cc
look_free next Written zero = λ e. cc
look_free next (At frame) zero = λ e. cc
look_free next a (suc more) = lapsed_not a

mark_free : (next : FrameNumber) (a : DoorbellRequest) (mark : Mark) → request_after_mark next a mark ≢ Written
mark_free next a (Look count) = look_free next a count
mark_free next a mark = lapsed_not a

free_on : (next : FrameNumber) (a : DoorbellRequest) (marks : List Mark) → a ≢ Written → request_after_marks next a marks ≢ Written
free_on next a [] ne = ne
free_on next a (mark ∷ marks) ne = free_on next (request_after_mark next a mark) marks (mark_free next a mark)

pub free_after : (next : FrameNumber) (a : DoorbellRequest) (mark : Mark) (marks : List Mark) → request_after_marks next a (mark ∷ marks) ≢ Written
free_after next a mark marks = free_on next (request_after_mark next a mark) marks (mark_free next a mark)

-- Marks of which one is there.
abbrev HasMark : List Mark → Type 0
HasMark [] = ⊥
HasMark (mark ∷ marks) = Unit {0}

has_free : (next : FrameNumber) (a : DoorbellRequest) (marks : List Mark) → HasMark marks → request_after_marks next a marks ≢ Written
has_free next a [] has = absurd has
has_free next a (mark ∷ marks) has = free_after next a mark marks

has_if : (b : Bool) (m n : List Mark) → HasMark m → HasMark n → HasMark (if b then m else n)
has_if true m n mine opposite = mine
has_if false m n mine opposite = opposite

has_tick : (value : ℕ) (move : Move) → HasMark (tick_marks value move)
has_tick value Stay = tt
has_tick value (Set state) = tt
has_tick value (ClearThenSet state) = tt

has_used : (config : EndConfig) (pending : PendingOffer) (freed value : ℕ) → HasMark (used_index_marks config pending freed value)
has_used config pending freed value = let d = returned_by freed value in has_if (is_used_index (freed % 65536) (high_half value) (pending.number - freed)) (reclaim_marks config pending freed d) (refusal field_name.UsedIndex (high_half value))
    (has_if (d == 0) (Reclaim 0 ∷ full_marks config pending freed) (Reclaim d ∷ []) tt tt) tt

look_has : (last : Bool) (d : ℕ) → HasMark (look_marks last d)
look_has last d = has_if (d == 0) (if last then Look 0 ∷ Done ∷ [] else Look 0 ∷ []) (Look d ∷ []) (has_if last (Look 0 ∷ Done ∷ []) (Look 0 ∷ []) tt tt) tt

-- After the read of the last id: the frame has room, or the ring is full.
id_asks : (Stands : ℕ → Type 0) (next : FrameNumber) (a : DoorbellRequest) (pending : PendingOffer) (value : ℕ) (fits found : Bool) →
    AsksAt Stands (request_after_marks next a (if found then (if fits then [] else Full ∷ []) else refusal field_name.UsedId value))
    (if found then (if fits then fill_place pending 0 (words_for (length pending.frame)) else Closed) else Refusing)
id_asks Stands next a pending value true true = fill_asks Stands a pending 0 (words_for (length pending.frame))
id_asks Stands next a pending value false true = lapsed_not a
id_asks Stands next a pending value fits false = tt

pub event_asked : (next : FrameNumber) (a : DoorbellRequest) (b : Bool) → a ≢ Written → request_after_marks next a (if b then [] else Over ∷ []) ≢ Written
event_asked next a true ne = ne
event_asked next a false ne = lapsed_not a

-- The request after the step at a place.
module _ (config : EndConfig) (Stands : ℕ → Type 0) (event : ℕ) (n m : FrameNumber) (value : ℕ) (w : Wake) where
  abbrev asked_at : Place → DoorbellRequest
  asked_at place = (wake_after event n m w (access_at config place) (marks_at config place value)).asked

  by_mark : (place : Place) → asked_at place ≢ Written → AsksAt Stands (asked_at place) (next_place config place value)
  by_mark place ne = free_asks Stands (asked_at place) (next_place config place value) ne

  pub asks_on : (Stood : ℕ → Type 0) (place : Place) → ((taken : ℕ) → place ≡ WritingAvailEvent taken → Stands taken) → AsksAt Stood w.asked place →
      AsksAt Stands (asked_at place) (next_place config place value)
  asks_on Stood Closed armed asks = asks
  asks_on Stood (ReadingOtherState handshake) armed asks = by_mark (ReadingOtherState handshake) (has_free m w.asked _ (has_tick value (move_of handshake value)))
  asks_on Stood (Clearing at more state) armed asks = clear_asks Stands _ (at + 1) more state
  asks_on Stood (WritingState state) armed asks = free_after m w.asked Over []
  asks_on Stood Refusing armed asks = free_after m w.asked Over []
  asks_on Stood NotInRun armed asks = asks
  asks_on Stood (ReadingUsedIndex pending freed) armed asks = by_mark (ReadingUsedIndex pending freed) (has_free m w.asked _ (has_used config pending freed value))
  asks_on Stood (ReadingUsedId pending freed zero) armed asks = id_asks Stands m w.asked pending value (frame_fits config pending (freed + 1)) (is_used_id (descriptor_of config freed) value)
  asks_on Stood (ReadingUsedId pending freed (suc more)) armed asks = asks_if Stands _ (is_used_id (descriptor_of config freed) value) (ReadingUsedId pending (freed + 1) more) Refusing tt tt
  asks_on Stood (WritingFrameWord pending at more) armed asks = fill_asks Stands _ pending (at + 1) more
  asks_on Stood (WritingAvailIndex pending) armed asks = by_mark (WritingAvailIndex pending) (free_after m (request_after_access event w.asked (access_at config (WritingAvailIndex pending))) (Accept pending.frame) [])
  asks_on Stood (ReadingAvailEvent number) armed asks = by_mark (ReadingAvailEvent number) (event_asked m w.asked (wants_doorbell (low_half value) number) asks)
  asks_on Stood RingingOffer armed asks = asks
  asks_on Stood (ReadingAvailIndex taken last) armed asks = by_mark (ReadingAvailIndex taken last) (has_free m w.asked _ (has_if (is_avail_index config.sizes (taken % 65536) (high_half value)) (look_marks last (published_by taken value)) (refusal field_name.AvailIndex (high_half value)) (look_has last (published_by taken value)) tt))
  asks_on Stood (WritingAvailEvent taken) armed asks = λ e. armed taken refl
  asks_on Stood (ReadingAvailEntry number more) armed asks = let e = entry_in config number value in asks_if Stands _ (is_avail_entry config.sizes e) (ReadingDescAddressLow number more e) Refusing tt tt
  asks_on Stood (ReadingDescAddressHigh number more entry low) armed asks = let x = address_of low value in asks_if Stands _ (is_desc_address config.sizes x) (ReadingDescLength number more entry x) Refusing tt tt
  asks_on Stood (ReadingDescLength number more entry address) armed asks = asks_if Stands _ (is_desc_length config.sizes address value) (ReadingDescFlags number more entry address value) Refusing tt tt
  asks_on Stood (ReadingDescFlags number more entry address bytes) armed asks = asks_if Stands _ (is_desc_flags (desc_flags value)) (words_place number more entry address bytes [] (words_for bytes)) Refusing (words_asks Stands _ number more entry address bytes [] (words_for bytes)) tt
  asks_on Stood (ReadingFrameWord number more entry address bytes read words) armed asks = words_asks Stands _ number more entry address bytes (read ++ value ∷ []) words
  asks_on Stood (WritingUsedIndex number more) armed asks = by_mark (WritingUsedIndex number more) (free_after m (request_after_access event w.asked (access_at config (WritingUsedIndex number more))) Return [])
  asks_on Stood RingingPoll armed asks = asks
  asks_on Stood place armed asks = tt

-- The origin of a request at a frame.

abbrev IsEmptyLook : List Mark → Type 0
IsEmptyLook (Look zero ∷ marks) = Unit {0}
IsEmptyLook marks = ⊥

frame_is : {m k : FrameNumber} → At m ≡ At k → k ≡ m
frame_is e = cc

lapsed_from : (f : FrameNumber) (a : DoorbellRequest) → lapsed a ≡ At f → a ≡ At f
lapsed_from f Nowhere e = e
lapsed_from f Written e = absurd (cc)
lapsed_from f (At frame) e = e

pub lapsed_at : (f : FrameNumber) (a : DoorbellRequest) → lapsed a ≡ At f → a ≡ At f
lapsed_at f a e = lapsed_from f a e

look_from : (next f : FrameNumber) (a : DoorbellRequest) → request_after_look next a zero ≡ At f → (a ≡ At f) ⊎ ((a ≡ Written) × (f ≡ next))
look_from next f Nowhere e = inl e
look_from next f Written e = inr (refl, frame_is e)
look_from next f (At frame) e = inl e

marks_from : (next f : FrameNumber) (a : DoorbellRequest) (marks : List Mark) → request_after_marks next a marks ≡ At f → (a ≡ At f) ⊎ ((a ≡ Written) × IsEmptyLook marks × (f ≡ next))
marks_from next f a [] e = inl e
marks_from next f a (Look zero ∷ marks) e = ⊎_elim (λ h. ⊎_elim (λ i. inl i) (λ i. inr (i.0, tt, i.1)) (look_from next f a h)) (λ h. absurd (look_free next a zero h.0)) (marks_from next f (request_after_look next a zero) marks e)
marks_from next f a (Look (suc more) ∷ marks) e = ⊎_elim (λ h. inl (lapsed_from f a h)) (λ h. absurd (lapsed_not a h.0)) (marks_from next f (lapsed a) marks e)
marks_from next f a (mark ∷ marks) e = ⊎_elim (λ h. inl (lapsed_from f a h)) (λ h. absurd (lapsed_not a h.0)) (marks_from next f (lapsed a) marks e)

-- An access that writes no event word.
abbrev pub LeavesEvent : (event : ℕ) → Access → Type 0
LeavesEvent event (access.Write word written) = word ≢ event
LeavesEvent event a = Unit {0}

written_from : (f : FrameNumber) (word event : ℕ) (was : DoorbellRequest) → (if word == event then Written else was) ≡ At f → (was ≡ At f) × (word ≢ event)
written_from f word event was e = (by (word == event) refl e, λ same. absurd (taken same))
  where
    by : (b : Bool) → (word == event) ≡ b → (if b then Written else was) ≡ At f → was ≡ At f
    by true is e = absurd (cc)
    by false is e = e

    taken : word ≡ event → ⊥
    taken same = let e : Written ≡ At f = sym (ap (λ (b : Bool). if b then Written else was) (eq-eqb word event same)) ∙ e in absurd (cc)

none_empty : (marks : List Mark) → HasNoLook marks → ¬ IsEmptyLook marks
none_empty [] is = λ e. e
none_empty (Look count ∷ marks) is = absurd is
none_empty (mark ∷ marks) is = λ e. e

access_from : (event : ℕ) (n m f : FrameNumber) (w : Wake) (a : Access) (marks : List Mark) → ¬ IsEmptyLook marks → (wake_after event n m w a marks).asked ≡ At f → (w.asked ≡ At f) × LeavesEvent event a
access_from event n m f w (access.Read word) marks quiet e = (⊎_elim (λ h. h) (λ h. absurd (quiet h.1)) (marks_from m f w.asked marks e), tt)
access_from event n m f w (access.Write word written) marks quiet e = written_from f word event w.asked (⊎_elim (λ h. h) (λ h. absurd (quiet h.1)) (marks_from m f (request_after_access event w.asked (access.Write word written)) marks e))
access_from event n m f w (access.State state) marks quiet e = (⊎_elim (λ h. h) (λ h. absurd (quiet h.1)) (marks_from m f w.asked marks e), tt)
access_from event n m f w (access.Ring target vector) marks quiet e = (e, tt)
access_from event n m f w access.Nothing marks quiet e = (e, tt)

-- It is by this look, which found none.
abbrev pub IsNew : (m : FrameNumber) (value : ℕ) (f : FrameNumber) → DoorbellRequest → Place → Type 0
IsNew m value f a place = (taken : ℕ) × (last : Bool) × (place ≡ ReadingAvailIndex taken last) × (published_by taken value ≡ 0) × (a ≡ Written) × (f ≡ m)

look_empty : (last within : Bool) (d value : ℕ) → IsEmptyLook (if within then look_marks last d else refusal field_name.AvailIndex value) → d ≡ 0
look_empty last true zero value is = refl
look_empty last true (suc d) value is = absurd (subst (λ (b : Bool). IsEmptyLook (if b then (if last then Look 0 ∷ Done ∷ [] else Look 0 ∷ []) else Look (suc d) ∷ [])) (more_than d) is)
look_empty last false d value is = absurd is

event_empty : (b : Bool) → ¬ IsEmptyLook (if b then [] else Over ∷ [])
event_empty true = λ x. x
event_empty false = λ x. x

pub asked_from : (config : EndConfig) (event : ℕ) (n m f : FrameNumber) (value : ℕ) (w : Wake) (place : Place) → (wake_after event n m w (access_at config place) (marks_at config place value)).asked ≡ At f →
    ((w.asked ≡ At f) × LeavesEvent event (access_at config place)) ⊎ IsNew m value f w.asked place
asked_from config event n m f value w (ReadingAvailIndex taken last) e = ⊎_elim (λ h. inl (h, tt)) (λ h. inr (taken, last, refl, look_empty last (is_avail_index config.sizes (taken % 65536) (high_half value)) (published_by taken value) (high_half value) h.1, h.0, h.2))
    (marks_from m f w.asked (marks_at config (ReadingAvailIndex taken last) value) e)
asked_from config event n m f value w (WritingState state) e = inl (access_from event n m f w (access.State state) (Over ∷ []) (λ x. x) e)
asked_from config event n m f value w Refusing e = inl (access_from event n m f w (access.State 0) (Over ∷ []) (λ x. x) e)
asked_from config event n m f value w (ReadingAvailEvent number) e = inl (access_from event n m f w (access_at config (ReadingAvailEvent number)) _ (event_empty (wants_doorbell (low_half value) number)) e)
asked_from config event n m f value w RingingOffer e = inl (e, tt)
asked_from config event n m f value w place e = inl (access_from event n m f w (access_at config place) (marks_at config place value) (none_empty (marks_at config place value) (plain_none (marks_at config place value) (plain_marks config place value refl (λ x. cc)))) e)

-- The frames that it missed.

none_in : (k : ℕ) → Contains [] k → ⊥
none_in k (i, lt, e) = omega arith

event_missed : (n : FrameNumber) (was : List FrameNumber) (b : Bool) (f : FrameNumber) → Contains (missed_by n was (if b then [] else Over ∷ [])) f → Contains was f ⊎ ((b ≡ false) × (f ≡ n))
event_missed n was true f c = inl c
event_missed n was false f c = ⊎_elim (λ h. inl h) (λ h. inr (refl, one_in n f h)) (Contains-append_cases was (n ∷ []) f c)
  where
    one_in : (a b : FrameNumber) → Contains (a ∷ []) b → b ≡ a
    one_in a b (zero, lt, e) = sym e
    one_in a b (suc k, lt, e) = absurd (omega arith)

-- The frames missed before, or the frame whose event is read now and doesn't want a doorbell.
abbrev pub IsMissed : (n : FrameNumber) (value : ℕ) (f : FrameNumber) → Place → Type 0
IsMissed n value f place = (number : ℕ) × (place ≡ ReadingAvailEvent number) × (wants_doorbell (low_half value) number ≡ false) × (f ≡ n)

looked_missed : (n : FrameNumber) (was : List FrameNumber) (d value : ℕ) (last within : Bool) → missed_by n was (if within then look_marks last d else refusal field_name.AvailIndex value) ≡ was
looked_missed n was zero value true true = refl
looked_missed n was zero value false true = refl
looked_missed n was (suc d) value last true = ap (λ (b : Bool). missed_by n was (if b then empty_marks last else Look (suc d) ∷ [])) (more_than d)
looked_missed n was d value last false = refl

pub missed_from : (config : EndConfig) (event : ℕ) (n m f : FrameNumber) (value : ℕ) (w : Wake) (place : Place) → Contains (wake_after event n m w (access_at config place) (marks_at config place value)).missed f → Contains w.missed f ⊎ IsMissed n value f place
missed_from config event n m f value w (WritingState state) c = inl c
missed_from config event n m f value w Refusing c = inl c
missed_from config event n m f value w (ReadingAvailEvent number) c = ⊎_elim (λ h. inl h) (λ h. inr (number, refl, h.0, h.1)) (event_missed n w.missed (wants_doorbell (low_half value) number) f c)
missed_from config event n m f value w (ReadingAvailIndex taken last) c = inl (subst (λ l. Contains l f) (looked_missed n w.missed (published_by taken value) (high_half value) last (is_avail_index config.sizes (taken % 65536) (high_half value))) c)
missed_from config event n m f value w place c = inl (subst (λ l. Contains l f) (kept_missed config event n m w place value refl) c)

-- The steps that ring.

if_rings : (b : Bool) → (if b then RingingOffer else Closed) ≡ RingingOffer → b ≡ true
if_rings true e = refl
if_rings false e = absurd (cc)

rings_if : (b : Bool) (x y : Place) → x ≢ RingingOffer → y ≢ RingingOffer → (if b then x else y) ≢ RingingOffer
rings_if true x y mine opposite = mine
rings_if false x y mine opposite = opposite

clear_rings : (at count state : ℕ) → clear_place at count state ≢ RingingOffer
clear_rings at zero state = λ e. cc
clear_rings at (suc more) state = λ e. cc

tick_rings : (config : EndConfig) (move : Move) → tick_place config move ≢ RingingOffer
tick_rings config Stay = λ e. cc
tick_rings config (Set state) = λ e. cc
tick_rings config (ClearThenSet state) = clear_rings config.own config.words state

fill_rings : (pending : PendingOffer) (at count : ℕ) → fill_place pending at count ≢ RingingOffer
fill_rings pending at zero = λ e. cc
fill_rings pending at (suc more) = λ e. cc

ids_rings : (config : EndConfig) (pending : PendingOffer) (freed count : ℕ) → ids_place config pending freed count ≢ RingingOffer
ids_rings config pending freed zero = rings_if (frame_fits config pending freed) (fill_place pending 0 (words_for (length pending.frame))) Closed (fill_rings pending 0 (words_for (length pending.frame))) (λ e. cc)
ids_rings config pending freed (suc more) = λ e. cc

items_rings : (number count : ℕ) → items_place number count ≢ RingingOffer
items_rings number zero = λ e. cc
items_rings number (suc more) = λ e. cc

words_rings : (number more entry address bytes : ℕ) (read : List ℕ) (count : ℕ) → words_place number more entry address bytes read count ≢ RingingOffer
words_rings number more entry address bytes read zero = λ e. cc
words_rings number more entry address bytes read (suc words) = λ e. cc

look_rings : (taken d : ℕ) (last within : Bool) → (if within then (if d == 0 then none_place taken last else items_place taken d) else Refusing) ≢ RingingOffer
look_rings taken zero true true = λ e. cc
look_rings taken zero false true = λ e. cc
look_rings taken (suc d) last true = subst (λ (b : Bool). (if b then none_place taken last else items_place taken (suc d)) ≢ RingingOffer) (sym (more_than d)) (items_rings taken (suc d))
look_rings taken d last false = λ e. cc

-- In a link with events a step leads to the doorbell of an offer only from the read of an event
-- that wants it.
pub rings_from : (config : EndConfig) (place : Place) (value : ℕ) → has_events config.sizes ≡ true → is_open place ≡ true → next_place config place value ≡ RingingOffer → (number : ℕ) × (place ≡ ReadingAvailEvent number) × (wants_doorbell (low_half value) number ≡ true)
rings_from config (ReadingAvailEvent number) value ev goes e = (number, refl, if_rings (wants_doorbell (low_half value) number) e)
rings_from config (ReadingOtherState handshake) value ev goes e = absurd (tick_rings config (move_of handshake value) e)
rings_from config (Clearing at more state) value ev goes e = absurd (clear_rings (at + 1) more state e)
rings_from config (ReadingUsedIndex pending freed) value ev goes e = let d = returned_by freed value in absurd (rings_if (is_used_index (freed % 65536) (high_half value) (pending.number - freed)) (ids_place config pending freed d) Refusing (ids_rings config pending freed d) (λ x. cc) e)
rings_from config (ReadingUsedId pending freed more) value ev goes e = absurd (rings_if (is_used_id (descriptor_of config freed) value) (ids_place config pending (freed + 1) more) Refusing (ids_rings config pending (freed + 1) more) (λ x. cc) e)
rings_from config (WritingFrameWord pending at more) value ev goes e = absurd (fill_rings pending (at + 1) more e)
rings_from config (WritingAvailIndex pending) value ev goes e = let at : ReadingAvailEvent pending.number ≡ RingingOffer = sym (ap (λ (b : Bool). if b then ReadingAvailEvent pending.number else RingingOffer) ev) ∙ e in absurd (cc)
rings_from config (ReadingAvailIndex taken last) value ev goes e = absurd (look_rings taken (published_by taken value) last (is_avail_index config.sizes (taken % 65536) (high_half value)) e)
rings_from config (ReadingAvailEntry number more) value ev goes e = let x = entry_in config number value in absurd (rings_if (is_avail_entry config.sizes x) (ReadingDescAddressLow number more x) Refusing (λ y. cc) (λ y. cc) e)
rings_from config (ReadingDescAddressHigh number more entry low) value ev goes e = let x = address_of low value in absurd (rings_if (is_desc_address config.sizes x) (ReadingDescLength number more entry x) Refusing (λ y. cc) (λ y. cc) e)
rings_from config (ReadingDescLength number more entry address) value ev goes e = absurd (rings_if (is_desc_length config.sizes address value) (ReadingDescFlags number more entry address value) Refusing (λ y. cc) (λ y. cc) e)
rings_from config (ReadingDescFlags number more entry address bytes) value ev goes e = absurd (rings_if (is_desc_flags (desc_flags value)) (words_place number more entry address bytes [] (words_for bytes)) Refusing (words_rings number more entry address bytes [] (words_for bytes)) (λ y. cc) e)
rings_from config (ReadingFrameWord number more entry address bytes read words) value ev goes e = absurd (words_rings number more entry address bytes (read ++ value ∷ []) words e)
rings_from config (WritingUsedIndex number more) value ev goes e = absurd (items_rings (number + 1) more e)
rings_from config place value ev goes e = absurd (cc)

-- Frames below which none waits for its event.

look_pending : (taken d : ℕ) (last within : Bool) → unpublished (if within then (if d == 0 then none_place taken last else items_place taken d) else Refusing) ≡ 0
look_pending taken zero true true = refl
look_pending taken zero false true = refl
look_pending taken (suc d) last true = subst (λ (b : Bool). unpublished (if b then none_place taken last else items_place taken (suc d)) ≡ 0) (sym (more_than d)) refl
look_pending taken d last false = refl

-- A session's list of frames grows, but where a session opens.
never_shorter : (end : End) (marks : List Mark) → length end.accepted ≤ length (with_marks end marks).accepted
never_shorter end [] = omega arith
never_shorter end (mark ∷ marks) = let more = never_shorter (with_mark end mark) marks in let one = once end mark in omega arith
  where
    once : (end : End) (mark : Mark) → length end.accepted ≤ length (with_mark end mark).accepted
    once end (Accept frame) = let n = length-append end.accepted (frame ∷ []) in omega arith
    once end mark = omega arith

stated_accepted : (end : End) (a : Access) → a ≢ access.State 2 → (with_access end a).accepted ≡ end.accepted
stated_accepted end (access.State state) ne = ap (λ (b : Bool). if b then [] else end.accepted) (ne_eqb state 2 (λ e. ne (ap access.State e)))
stated_accepted end (access.Read word) ne = refl
stated_accepted end (access.Write word written) ne = refl
stated_accepted end (access.Ring target vector) ne = refl
stated_accepted end access.Nothing ne = refl

grows : (config : EndConfig) (end : End) (place : Place) (value : ℕ) → access_at config place ≢ access.State 2 → length end.accepted ≤ length (end_after end (step_at config place value)).accepted
grows config end place value ne = let same = ap length (stated_accepted end (access_at config place) ne) in let more = never_shorter (with_access end (access_at config place)) (marks_at config place value) in omega arith

-- A frame that was accepted and whose event is read stays so.
pub bound_on : (config : EndConfig) (end : End) (place : Place) (value k : ℕ) → access_at config place ≢ access.State 2 → k + 1 + unpublished place ≤ length end.accepted →
    k + 1 + unpublished (next_place config place value) ≤ length (end_after end (step_at config place value)).accepted
bound_on config end (WritingAvailIndex pending) value k ne h = let n = length-append end.accepted (pending.frame ∷ []) in let most = pending_most (next_place config (WritingAvailIndex pending) value) in omega arith
bound_on config end (ReadingAvailIndex taken last) value k ne h = let none = look_pending taken (published_by taken value) last (is_avail_index config.sizes (taken % 65536) (high_half value)) in let more = grows config end (ReadingAvailIndex taken last) value ne in omega arith
bound_on config end (WritingAvailEvent taken) value k ne h = omega arith
bound_on config end place value k ne h = let none = still_pending (next_place config place value) (next_still config place value refl) in let more = grows config end place value ne in omega arith

-- The read of the event accepts no frame.
pub event_accepted : (config : EndConfig) (end : End) (number value : ℕ) → (end_after end (step_at config (ReadingAvailEvent number) value)).accepted ≡ end.accepted
event_accepted config end number value = elim (wants_doorbell (low_half value) number) as (λ b. (with_marks end (if b then [] else Over ∷ [])).accepted ≡ end.accepted) [ true ↦ refl | false ↦ refl ]
