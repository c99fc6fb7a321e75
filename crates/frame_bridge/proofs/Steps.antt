-- The effect of a step on the frames of an end. They are those that it accepts and delivers, and
-- the frame of the open offer after it.
use Rattle.std.proofs.Common.{◌≡◌, ℕ, zero, suc, ◌+◌, Bool, true, false, List, [], ◌∷◌, ◌++◌, length, drop, refl, sym, ap, ◌∙◌, append_assoc, inl, inr, ◌-◌, eqb-true}
use Rattle.std.specs.Prelude.{◌⊎◌, ◌==◌, if◌then◌else◌, Some, None, ◌%◌}
use Rattle.std.proofs.lemmas.List.{append-nil}
use Rattle.split_ring.specs.Layout.{has_events}
use Rattle.split_ring.specs.Spelling.{low_half, high_half, desc_flags}
use Rattle.split_ring.specs.Ranges.{is_avail_entry, is_desc_address, is_desc_length, is_avail_index, is_desc_flags, is_used_index, is_used_id}
use Rattle.link_handshake.specs.declared.Move.{Move}
use Rattle.link_handshake.specs.declared.Move.TheVariants.{Stay, Set, ClearThenSet}
use Rattle.link_handshake.specs.HandshakeState.{move_of}
use Rattle.call_grammar.specs.Steps.{Mark, Accept, Deliver}
use Rattle.call_grammar.specs.Ends.{End, with_access, with_mark, with_marks}
use Rattle.call_grammar.specs.Words.{words_for, address_of}
use Rattle.call_grammar.specs.Calls.{EndConfig}
use Rattle.call_grammar.specs.Ticks.{tick_marks}
use Rattle.call_grammar.specs.Offers.{PendingOffer, frame_fits, descriptor_of, wants_doorbell, full_marks, reclaim_marks, returned_by}
use Rattle.call_grammar.specs.Polls.{entry_in, look_marks, published_by}
use Rattle.call_grammar.specs.Places.{Place, Closed, ReadingOtherState, Clearing, WritingState, Refusing, NotInRun, ReadingUsedIndex, ReadingUsedId, WritingFrameWord, WritingDescAddressLow, WritingDescAddressHigh, WritingDescLength, WritingDescFlags, WritingAvailEntry, WritingAvailIndex, ReadingAvailEvent, RingingOffer, ReadingAvailIndex, WritingAvailEvent, ReadingAvailEntry, ReadingDescAddressLow, ReadingDescAddressHigh, ReadingDescLength, ReadingDescFlags, ReadingFrameWord, WritingUsedId, WritingUsedLength, WritingUsedIndex, RingingPoll, clear_place, tick_place, fill_place, ids_place, notify_place, none_place, items_place, words_place, access_at, marks_at, next_place}
use Rattle.link_endpoint.specs.Plan.{left_after, delivered_by}
use Rattle.frame_bridge.specs.Keeps.{pending_frame, HeadIs}

-- Accepted frames

abbrev pub accepted_by : List Mark → List (List ℕ)
accepted_by [] = []
accepted_by (Accept frame ∷ marks) = frame ∷ accepted_by marks
accepted_by (_ ∷ marks) = accepted_by marks

-- Marks that accept nothing don't change the frames.
stays : (marks : List Mark) (frames : List (List ℕ)) → accepted_by marks ≡ [] → left_after frames marks ≡ frames
stays [] frames none = refl
stays (Accept frame ∷ marks) frames none = absurd (cc)
stays (_ ∷ marks) frames none = stays marks frames none

-- The offer's frame is published next.
abbrev pub is_publishing : Place → Bool
is_publishing (WritingAvailIndex pending) = true
is_publishing _ = false

if_silent : (b : Bool) (xs ys : List Mark) → accepted_by xs ≡ [] → accepted_by ys ≡ [] → accepted_by (if b then xs else ys) ≡ []
if_silent true xs ys x y = x
if_silent false xs ys x y = y

tick_silent : (value : ℕ) (move : Move) → accepted_by (tick_marks value move) ≡ []
tick_silent value Stay = refl
tick_silent value (Set state) = refl
tick_silent value (ClearThenSet state) = refl

full_silent : (config : EndConfig) (pending : PendingOffer) (freed : ℕ) → accepted_by (full_marks config pending freed) ≡ []
full_silent config pending freed = if_silent (frame_fits config pending freed) _ _ refl refl

reclaim_silent : (config : EndConfig) (pending : PendingOffer) (freed count : ℕ) → accepted_by (reclaim_marks config pending freed count) ≡ []
reclaim_silent config pending freed count = if_silent (count == 0) _ _ (full_silent config pending freed) refl

look_silent : (last : Bool) (count : ℕ) → accepted_by (look_marks last count) ≡ []
look_silent last count = if_silent (count == 0) _ _ (if_silent last _ _ refl refl) refl

-- No other place accepts a frame.
silent : (config : EndConfig) (place : Place) (value : ℕ) → is_publishing place ≡ false → accepted_by (marks_at config place value) ≡ []
silent config (WritingAvailIndex pending) value is = absurd (cc)
silent config (ReadingOtherState handshake) value is = tick_silent value (move_of handshake value)
silent config (ReadingUsedIndex pending freed) value is =
    if_silent (is_used_index (freed % 65536) (high_half value) (pending.number - freed)) _ _ (reclaim_silent config pending freed (returned_by freed value)) refl
silent config (ReadingUsedId pending freed more) value is =
    if_silent (is_used_id (descriptor_of config freed) value) _ _ (if_silent (more == 0) _ _ (full_silent config pending (freed + 1)) refl) refl
silent config (ReadingAvailEvent number) value is = if_silent (wants_doorbell (low_half value) number) _ _ refl refl
silent config (ReadingAvailIndex taken last) value is = if_silent (is_avail_index config.sizes (taken % 65536) (high_half value)) _ _ (look_silent last (published_by taken value)) refl
silent config (ReadingAvailEntry number more) value is = if_silent (is_avail_entry config.sizes (entry_in config number value)) _ _ refl refl
silent config (ReadingDescAddressHigh number more entry low) value is = if_silent (is_desc_address config.sizes (address_of low value)) _ _ refl refl
silent config (ReadingDescLength number more entry address) value is = if_silent (is_desc_length config.sizes address value) _ _ refl refl
silent config (ReadingDescFlags number more entry address bytes) value is = if_silent (is_desc_flags (desc_flags value)) _ _ refl refl
silent config (ReadingFrameWord number more entry address bytes read words) value is = if_silent (words == 0) _ _ refl refl
silent config _ value is = refl

-- The frame of the open offer

-- A step ends the offer, or continues it.
abbrev Goes : Place → Place → Type 0
Goes place next = (pending_frame next ≡ None) ⊎ ((pending_frame next ≡ pending_frame place) × (is_publishing place ≡ false))

if_goes : (place : Place) (b : Bool) (x y : Place) → Goes place x → Goes place y → Goes place (if b then x else y)
if_goes place true x y one other = one
if_goes place false x y one other = other

clear_none : (at count state : ℕ) → pending_frame (clear_place at count state) ≡ None
clear_none at zero state = refl
clear_none at (suc more) state = refl

tick_none : (config : EndConfig) (move : Move) → pending_frame (tick_place config move) ≡ None
tick_none config Stay = refl
tick_none config (Set state) = refl
tick_none config (ClearThenSet state) = clear_none config.own config.words state

notify_none : (config : EndConfig) (number : ℕ) → pending_frame (notify_place config number) ≡ None
notify_none config number = by_events (has_events config.sizes)
  where
    by_events : (b : Bool) → pending_frame (if b then ReadingAvailEvent number else RingingOffer) ≡ None
    by_events true = refl
    by_events false = refl

none_none : (taken : ℕ) (last : Bool) → pending_frame (none_place taken last) ≡ None
none_none taken true = refl
none_none taken false = refl

items_none : (number count : ℕ) → pending_frame (items_place number count) ≡ None
items_none number zero = refl
items_none number (suc more) = refl

words_none : (number more entry address bytes : ℕ) (read : List ℕ) (count : ℕ) → pending_frame (words_place number more entry address bytes read count) ≡ None
words_none number more entry address bytes read zero = refl
words_none number more entry address bytes read (suc count) = refl

fill_frame : (pending : PendingOffer) (at count : ℕ) → pending_frame (fill_place pending at count) ≡ Some pending.frame
fill_frame pending at zero = refl
fill_frame pending at (suc more) = refl

ids_goes : (config : EndConfig) (place : Place) (pending : PendingOffer) (freed count : ℕ) → pending_frame place ≡ Some pending.frame → is_publishing place ≡ false →
    Goes place (ids_place config pending freed count)
ids_goes config place pending freed zero here not_yet =
    if_goes place (frame_fits config pending freed) (fill_place pending 0 (words_for (length pending.frame))) Closed
    (inr (fill_frame pending 0 (words_for (length pending.frame)) ∙ sym here, not_yet)) (inl refl)
ids_goes config place pending freed (suc more) here not_yet = inr (sym here, not_yet)

goes : (config : EndConfig) (place : Place) (value : ℕ) → Goes place (next_place config place value)
goes config Closed value = inl refl
goes config (ReadingOtherState handshake) value = inl (tick_none config (move_of handshake value))
goes config (Clearing at more state) value = inl (clear_none (at + 1) more state)
goes config (WritingState state) value = inl refl
goes config Refusing value = inl refl
goes config NotInRun value = inl refl
goes config (ReadingUsedIndex pending freed) value =
    if_goes (ReadingUsedIndex pending freed) (is_used_index (freed % 65536) (high_half value) (pending.number - freed)) _ _
    (ids_goes config (ReadingUsedIndex pending freed) pending freed (returned_by freed value) refl refl) (inl refl)
goes config (ReadingUsedId pending freed more) value =
    if_goes (ReadingUsedId pending freed more) (is_used_id (descriptor_of config freed) value) _ _ (ids_goes config (ReadingUsedId pending freed more) pending (freed + 1) more refl refl) (inl refl)
goes config (WritingFrameWord pending at more) value = inr (fill_frame pending (at + 1) more, refl)
goes config (WritingDescAddressLow pending) value = inr (refl, refl)
goes config (WritingDescAddressHigh pending) value = inr (refl, refl)
goes config (WritingDescLength pending) value = inr (refl, refl)
goes config (WritingDescFlags pending) value = inr (refl, refl)
goes config (WritingAvailEntry pending) value = inr (refl, refl)
goes config (WritingAvailIndex pending) value = inl (notify_none config pending.number)
goes config (ReadingAvailEvent number) value = if_goes (ReadingAvailEvent number) (wants_doorbell (low_half value) number) _ _ (inl refl) (inl refl)
goes config RingingOffer value = inl refl
goes config (ReadingAvailIndex taken last) value =
    if_goes (ReadingAvailIndex taken last) (is_avail_index config.sizes (taken % 65536) (high_half value)) _ _
    (if_goes (ReadingAvailIndex taken last) (published_by taken value == 0) _ _ (inl (none_none taken last)) (inl (items_none taken (published_by taken value)))) (inl refl)
goes config (WritingAvailEvent taken) value = inl refl
goes config (ReadingAvailEntry number more) value = if_goes (ReadingAvailEntry number more) (is_avail_entry config.sizes (entry_in config number value)) _ _ (inl refl) (inl refl)
goes config (ReadingDescAddressLow number more entry) value = inl refl
goes config (ReadingDescAddressHigh number more entry low) value = if_goes (ReadingDescAddressHigh number more entry low) (is_desc_address config.sizes (address_of low value)) _ _ (inl refl) (inl refl)
goes config (ReadingDescLength number more entry address) value =
    if_goes (ReadingDescLength number more entry address) (is_desc_length config.sizes address value) _ _ (inl refl) (inl refl)
goes config (ReadingDescFlags number more entry address bytes) value =
    if_goes (ReadingDescFlags number more entry address bytes) (is_desc_flags (desc_flags value)) _ _ (inl (words_none number more entry address bytes [] (words_for bytes))) (inl refl)
goes config (ReadingFrameWord number more entry address bytes read words) value = inl (words_none number more entry address bytes (read ++ value ∷ []) words)
goes config (WritingUsedId number more entry) value = inl refl
goes config (WritingUsedLength number more) value = inl refl
goes config (WritingUsedIndex number more) value = inl (items_none (number + 1) more)
goes config RingingPoll value = inl refl

heads_at : (place next : Place) (marks : List Mark) (frames : List (List ℕ)) → Goes place next → (is_publishing place ≡ false → accepted_by marks ≡ []) →
    HeadIs place frames → HeadIs next (left_after frames marks)
heads_at place next marks frames (inl none) quiet head = λ frame is. let no_frame : None ≡ Some frame = sym none ∙ is in absurd (cc)
heads_at place next marks frames (inr on) quiet head = λ frame is.
    let here = head frame (sym on.0 ∙ is) in
    (here.0, stays marks frames (quiet on.1) ∙ here.1)

-- After a step the frame of the open offer is still the first.
pub heads_on : (config : EndConfig) (place : Place) (value : ℕ) (frames : List (List ℕ)) → HeadIs place frames →
    HeadIs (next_place config place value) (left_after frames (marks_at config place value))
heads_on config place value frames head =
    heads_at place (next_place config place value) (marks_at config place value) frames (goes config place value) (silent config place value) head

published : (pending : PendingOffer) (frames : List (List ℕ)) → HeadIs (WritingAvailIndex pending) frames → frames ≡ pending.frame ∷ drop 1 frames
published pending frames head =
    let here = head pending.frame refl in
    here.1 ∙ ap (λ (l : List (List ℕ)). pending.frame ∷ drop 1 l) (sym here.1)

counts_at : (place : Place) (marks : List Mark) (frames : List (List ℕ)) → accepted_by marks ≡ [] → frames ≡ accepted_by marks ++ left_after frames marks
counts_at place marks frames none = sym (ap (λ (l : List (List ℕ)). l ++ left_after frames marks) none ∙ stays marks frames none)

-- The frames to come are those that the step accepts, and the rest.
pub counts_on : (config : EndConfig) (place : Place) (value : ℕ) (frames : List (List ℕ)) → HeadIs place frames →
    frames ≡ accepted_by (marks_at config place value) ++ left_after frames (marks_at config place value)
counts_on config (WritingAvailIndex pending) value frames head = published pending frames head
counts_on config place value frames head = counts_at place (marks_at config place value) frames (silent config place value refl)

-- The lists of an end

pub noted_accepted : (marks : List Mark) (end : End) → (with_marks end marks).accepted ≡ end.accepted ++ accepted_by marks
noted_accepted [] end = sym (append-nil end.accepted)
noted_accepted (Accept frame ∷ marks) end =
    noted_accepted marks (record end { accepted = end.accepted ++ frame ∷ [] }) ∙ append_assoc end.accepted (frame ∷ []) (accepted_by marks)
noted_accepted (mark ∷ marks) end = noted_accepted marks (with_mark end mark)

pub noted_delivered : (marks : List Mark) (end : End) → (with_marks end marks).delivered ≡ end.delivered ++ delivered_by marks
noted_delivered [] end = sym (append-nil end.delivered)
noted_delivered (Deliver frame ∷ marks) end =
    noted_delivered marks (record end { delivered = end.delivered ++ frame ∷ [] }) ∙ append_assoc end.delivered (frame ∷ []) (delivered_by marks)
noted_delivered (mark ∷ marks) end = noted_delivered marks (with_mark end mark)

-- An access changes the lists only if it opens a session, and not if they are empty.
pub record SameLists (end after : End) : Type 0 where
  pub accepted : after.accepted ≡ end.accepted
  pub delivered : after.delivered ≡ end.delivered

emptied : (b : Bool) (l : List (List ℕ)) → (b ≡ true → l ≡ []) → (if b then [] else l) ≡ l
emptied true l none = sym (none refl)
emptied false l none = refl

pub stated_lists : (config : EndConfig) (place : Place) (end : End) → (place ≡ WritingState 2 → (end.accepted ≡ []) × (end.delivered ≡ [])) →
    SameLists end (with_access end (access_at config place))
stated_lists config (WritingState state) end none =
    let two : state == 2 ≡ true → WritingState state ≡ WritingState 2 = λ e. ap (λ (s : ℕ). WritingState s) (eqb-true state 2 e) in
    record {
      accepted = emptied (state == 2) end.accepted (λ e. (none (two e)).0);
      delivered = emptied (state == 2) end.delivered (λ e. (none (two e)).1);
    }
stated_lists config _ end none = record { accepted = refl; delivered = refl }
