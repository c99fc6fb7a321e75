-- The frames that the marks of a step have.
use Rattle.std.proofs.Common.{◌≡◌, ◌≢◌, ℕ, zero, suc, ◌+◌, ◌≤◌, Bool, true, false, List, [], ◌∷◌, ◌++◌, length, refl, sym, ◌∙◌, ap, subst, arith}
use Rattle.std.specs.Prelude.{◌==◌, not, if◌then◌else◌, map, ◌%◌}
use Rattle.std.proofs.lemmas.Bool.Decides.{nat_tests}
use Rattle.split_ring.specs.declared.sizes.TheConstants.{SHORTEST_FRAME}
use Rattle.split_ring.specs.declared.ranges.Refused.{Refused}
use Rattle.split_ring.specs.declared.steps.Note.{Note}
use Rattle.split_ring.specs.declared.steps.Note.TheVariants as note
use Rattle.split_ring.specs.Layout.{has_events}
use Rattle.split_ring.specs.Ranges.{is_desc_length, is_avail_index, is_used_index, is_used_id}
use Rattle.split_ring.specs.Spelling.{high_half}
use Rattle.split_ring.proofs.TestsDecideRanges.{length_of_test}
use Rattle.link_handshake.specs.declared.Move.{Move}
use Rattle.link_handshake.specs.declared.Move.TheVariants.{Stay, Set, ClearThenSet}
use Rattle.link_handshake.specs.HandshakeState.{move_of}
use Rattle.call_grammar.specs.Steps.{Mark, Saw, Reclaim, Full, Accept, Look, Deliver, Return, Done, Down, Refuse, Over}
use Rattle.call_grammar.specs.Ends.{End}
use Rattle.call_grammar.specs.Words.{words_for, frame_in}
use Rattle.call_grammar.specs.Calls.{EndConfig, Call, Tick, Stop, Offer, Poll, in_run, pending_of}
use Rattle.call_grammar.specs.Ticks.{tick_marks}
use Rattle.call_grammar.specs.Offers.{PendingOffer, returned_by, descriptor_of}
use Rattle.call_grammar.specs.Polls.{is_last, published_by}
use Rattle.call_grammar.specs.Places.{Place, Closed, ReadingOtherState, Clearing, WritingState, Refusing, NotInRun, ReadingUsedIndex, ReadingUsedId, WritingFrameWord, WritingDescAddressLow, WritingDescAddressHigh, WritingDescLength, WritingDescFlags, WritingAvailEntry, WritingAvailIndex, ReadingAvailEvent, RingingOffer, ReadingAvailIndex, WritingAvailEvent, ReadingAvailEntry, ReadingDescAddressLow, ReadingDescAddressHigh, ReadingDescLength, ReadingDescFlags, ReadingFrameWord, WritingUsedIndex, RingingPoll, marks_at, next_place, first_place, fill_place, ids_place, items_place, none_place, words_place, tick_place, clear_place, is_open}
use Rattle.call_grammar.specs.Permitted.{IsPermittedCall}
use Rattle.link_endpoint.specs.Refinement.{mark_between, marks_between}
use Rattle.lawful_history.specs.EventRecords.{mark_line}
use Rattle.lawful_history.specs.Frames.{HaveFrames}
use Rattle.step_lines.specs.Places.{HasFrames}

either : (P : List Mark → Type 0) (b : Bool) (x y : List Mark) → P x → P y → P (if b then x else y)
either P true x y one other = one
either P false x y one other = other

-- A property of each list of marks without a frame.
record Frameless (P : List Mark → Type 0) : Type 0 where
  none : P []
  saw : (v : ℕ) → P (Saw v ∷ [])
  saw_over : (v : ℕ) → P (Saw v ∷ Over ∷ [])
  over : P (Over ∷ [])
  down : P (Down ∷ [])
  reclaim : (count : ℕ) → P (Reclaim count ∷ [])
  reclaim_full : P (Reclaim 0 ∷ Full ∷ [])
  full : P (Full ∷ [])
  refused : (r : Refused) → P (Refuse r ∷ [])
  look : (count : ℕ) → P (Look count ∷ [])
  look_done : P (Look 0 ∷ Done ∷ [])
  returns : P (Return ∷ [])
  finished : P (Done ∷ [])

ticks : (P : List Mark → Type 0) → Frameless P → (value : ℕ) (move : Move) → P (tick_marks value move)
ticks P f value Stay = f.saw_over value
ticks P f value (Set state) = f.saw value
ticks P f value (ClearThenSet state) = f.saw value

after_reclaim : (P : List Mark → Type 0) → Frameless P → (b : Bool) → P (Reclaim 0 ∷ (if b then [] else Full ∷ []))
after_reclaim P f true = f.reclaim 0
after_reclaim P f false = f.reclaim_full

-- A property of marks with a frame is a property of all marks of a step.
marks_hold : (P : List Mark → Type 0) → Frameless P → (config : EndConfig) (place : Place) (value : ℕ) → ((pending : PendingOffer) → place ≡ WritingAvailIndex pending → P (Accept pending.frame ∷ [])) →
    ((number more entry address bytes : ℕ) (read : List ℕ) (words : ℕ) → place ≡ ReadingFrameWord number more entry address bytes read words → P (Deliver (frame_in bytes (read ++ value ∷ [])) ∷ [])) → P (marks_at config place value)
marks_hold P f config (ReadingOtherState handshake) value accepts delivers = ticks P f value (move_of handshake value)
marks_hold P f config (WritingState state) value accepts delivers = f.over
marks_hold P f config Refusing value accepts delivers = f.over
marks_hold P f config NotInRun value accepts delivers = f.down
marks_hold P f config (ReadingUsedIndex pending freed) value accepts delivers = either P (is_used_index (freed % 65536) (high_half value) _) _ _ (either P (returned_by freed value == 0) _ _ (after_reclaim P f _) (f.reclaim (returned_by freed value))) (f.refused _)
marks_hold P f config (ReadingUsedId pending freed more) value accepts delivers = either P (is_used_id (descriptor_of config freed) value) _ _ (either P (more == 0) _ _ (either P _ _ _ f.none f.full) f.none) (f.refused _)
marks_hold P f config (WritingAvailIndex pending) value accepts delivers = accepts pending refl
marks_hold P f config (ReadingAvailEvent number) value accepts delivers = either P _ _ _ f.none f.over
marks_hold P f config RingingOffer value accepts delivers = f.over
marks_hold P f config (ReadingAvailIndex taken last) value accepts delivers =
    let none = either P last _ _ f.look_done (f.look 0) in
    either P (is_avail_index config.sizes (taken % 65536) (high_half value)) _ _ (either P (published_by taken value == 0) _ _ none (f.look (published_by taken value))) (f.refused _)
marks_hold P f config (ReadingAvailEntry number more) value accepts delivers = either P _ _ _ f.none (f.refused _)
marks_hold P f config (ReadingDescAddressHigh number more entry low) value accepts delivers = either P _ _ _ f.none (f.refused _)
marks_hold P f config (ReadingDescLength number more entry address) value accepts delivers = either P _ _ _ f.none (f.refused _)
marks_hold P f config (ReadingDescFlags number more entry address bytes) value accepts delivers = either P _ _ _ f.none (f.refused _)
marks_hold P f config (ReadingFrameWord number more entry address bytes read words) value accepts delivers = either P (words == 0) _ _ (delivers number more entry address bytes read words refl) f.none
marks_hold P f config (WritingUsedIndex number more) value accepts delivers = f.returns
marks_hold P f config RingingPoll value accepts delivers = f.finished
marks_hold P f config _ value accepts delivers = f.none

-- No frame is accepted.
abbrev NoAccept : List Mark → Type 0
NoAccept [] = Unit {0}
NoAccept (Accept frame ∷ marks) = ⊥
NoAccept (_ ∷ marks) = NoAccept marks

frameless_none : Frameless NoAccept
frameless_none = record {
  none = tt;
  saw = λ v. tt;
  saw_over = λ v. tt;
  over = tt;
  down = tt;
  reclaim = λ count. tt;
  reclaim_full = tt;
  full = tt;
  refused = λ r. tt;
  look = λ count. tt;
  look_done = tt;
  returns = tt;
  finished = tt;
}

-- The place after a frame's index was written is open.
notify_is_open : (b : Bool) (number : ℕ) → is_open (if b then ReadingAvailEvent number else RingingOffer) ≡ true
notify_is_open true number = refl
notify_is_open false number = refl

publishes_openly : (config : EndConfig) (place : Place) (value : ℕ) (pending : PendingOffer) → place ≡ WritingAvailIndex pending → is_open (next_place config place value) ≡ false → ⊥
publishes_openly config place value pending is shut =
    let now : is_open (next_place config (WritingAvailIndex pending) value) ≡ false = subst (λ (p : Place). is_open (next_place config p value) ≡ false) is shut in
    let open_there = notify_is_open (has_events config.sizes) pending.number in absurd (cc)

-- A step that ends its call accepts no frame.
ends_quietly : (config : EndConfig) (place : Place) (value : ℕ) → is_open (next_place config place value) ≡ false → NoAccept (marks_at config place value)
ends_quietly config place value shut = marks_hold NoAccept frameless_none config place value (λ pending is. absurd (publishes_openly config place value pending is shut)) (λ number more entry address bytes read words is. tt)

-- If no frame is accepted, the frame offered doesn't matter for the marks.
same_marks : (one other delivered : List ℕ) (notes : List Note) → NoAccept (marks_between one delivered notes) → marks_between other delivered notes ≡ marks_between one delivered notes
same_marks one other delivered [] none = refl
same_marks one other delivered (note.Accept ∷ notes) none = absurd none
same_marks one other delivered (note.Saw value ∷ notes) none = ap (λ ms. mark_between one delivered (note.Saw value) ∷ ms) (same_marks one other delivered notes none)
same_marks one other delivered (note.Reclaim count ∷ notes) none = ap (λ ms. mark_between one delivered (note.Reclaim count) ∷ ms) (same_marks one other delivered notes none)
same_marks one other delivered (note.Full ∷ notes) none = ap (λ ms. mark_between one delivered note.Full ∷ ms) (same_marks one other delivered notes none)
same_marks one other delivered (note.Look count ∷ notes) none = ap (λ ms. mark_between one delivered (note.Look count) ∷ ms) (same_marks one other delivered notes none)
same_marks one other delivered (note.Deliver ∷ notes) none = ap (λ ms. mark_between one delivered note.Deliver ∷ ms) (same_marks one other delivered notes none)
same_marks one other delivered (note.Return ∷ notes) none = ap (λ ms. mark_between one delivered note.Return ∷ ms) (same_marks one other delivered notes none)
same_marks one other delivered (note.Done ∷ notes) none = ap (λ ms. mark_between one delivered note.Done ∷ ms) (same_marks one other delivered notes none)
same_marks one other delivered (note.Down ∷ notes) none = ap (λ ms. mark_between one delivered note.Down ∷ ms) (same_marks one other delivered notes none)
same_marks one other delivered (note.Refuse refused ∷ notes) none = ap (λ ms. mark_between one delivered (note.Refuse refused) ∷ ms) (same_marks one other delivered notes none)
same_marks one other delivered (note.Over ∷ notes) none = ap (λ ms. mark_between one delivered note.Over ∷ ms) (same_marks one other delivered notes none)

-- The marks of a step. The frame offered is the one before the step or, if the call continues, the
-- one after it.
pub marks_after : (config : EndConfig) (place : Place) (value : ℕ) (old new delivered : List ℕ) (notes : List Note) (busy : Bool) → marks_between old delivered notes ≡ marks_at config place value → busy ≡ is_open (next_place config place value) →
    (busy ≡ true → new ≡ old) → marks_between new delivered notes ≡ marks_at config place value
marks_after config place value old new delivered notes true marked is same = ap (λ f. marks_between f delivered notes) (same refl) ∙ marked
marks_after config place value old new delivered notes false marked is same =
    same_marks old new delivered notes (subst NoAccept (sym marked) (ends_quietly config place value (sym is))) ∙ marked

-- Each frame has a byte

pub first_frames : (config : EndConfig) (end : End) (call : Call) → IsPermittedCall config call → HasFrames (first_place config end call)
first_frames config end Tick given = tt
first_frames config end Stop given = tt
first_frames config end (Offer frame) given = elim (in_run end.handshake.phase) as (λ b. HasFrames (if b then ReadingUsedIndex (pending_of config end frame) end.freed else NotInRun)) [ true ↦ given.0 | false ↦ tt ]
first_frames config end Poll given = elim (in_run end.handshake.phase) as (λ b. HasFrames (if b then ReadingAvailIndex (length end.delivered) (is_last config end.found_none) else NotInRun)) [ true ↦ tt | false ↦ tt ]

on : (b : Bool) (x y : Place) → HasFrames x → HasFrames y → HasFrames (if b then x else y)
on true x y one other = one
on false x y one other = other

clears : (at count state : ℕ) → HasFrames (clear_place at count state)
clears at zero state = tt
clears at (suc more) state = tt

moves : (config : EndConfig) (move : Move) → HasFrames (tick_place config move)
moves config Stay = tt
moves config (Set state) = tt
moves config (ClearThenSet state) = clears config.own config.words state

fills : (pending : PendingOffer) (at count : ℕ) → SHORTEST_FRAME ≤ length pending.frame → HasFrames (fill_place pending at count)
fills pending at zero least = least
fills pending at (suc more) least = least

ids : (config : EndConfig) (pending : PendingOffer) (freed count : ℕ) → SHORTEST_FRAME ≤ length pending.frame → HasFrames (ids_place config pending freed count)
ids config pending freed zero least = on _ (fill_place pending 0 (words_for (length pending.frame))) Closed (fills pending 0 (words_for (length pending.frame)) least) tt
ids config pending freed (suc more) least = least

takes : (number count : ℕ) → HasFrames (items_place number count)
takes number zero = tt
takes number (suc more) = tt

reads : (number more entry address bytes : ℕ) (read : List ℕ) (words : ℕ) → SHORTEST_FRAME ≤ bytes → HasFrames (words_place number more entry address bytes read words)
reads number more entry address bytes read zero least = tt
reads number more entry address bytes read (suc words) least = least

at_length : (config : EndConfig) (number more entry address value : ℕ) (b : Bool) → is_desc_length config.sizes address value ≡ b → HasFrames (if b then ReadingDescFlags number more entry address value else Refusing)
at_length config number more entry address value true is = (length_of_test config.sizes address value is).0
at_length config number more entry address value false is = tt

pub next_frames : (config : EndConfig) (place : Place) (value : ℕ) → HasFrames place → HasFrames (next_place config place value)
next_frames config (ReadingOtherState handshake) value has = moves config (move_of handshake value)
next_frames config (Clearing at more state) value has = clears (at + 1) more state
next_frames config (ReadingUsedIndex pending freed) value has = on _ (ids_place config pending freed (returned_by freed value)) Refusing (ids config pending freed (returned_by freed value) has) tt
next_frames config (ReadingUsedId pending freed more) value has = on _ (ids_place config pending (freed + 1) more) Refusing (ids config pending (freed + 1) more has) tt
next_frames config (WritingFrameWord pending at more) value has = fills pending (at + 1) more has
next_frames config (WritingDescAddressLow pending) value has = has
next_frames config (WritingDescAddressHigh pending) value has = has
next_frames config (WritingDescLength pending) value has = has
next_frames config (WritingDescFlags pending) value has = has
next_frames config (WritingAvailEntry pending) value has = has
next_frames config (WritingAvailIndex pending) value has = on (has_events config.sizes) (ReadingAvailEvent pending.number) RingingOffer tt tt
next_frames config (ReadingAvailEvent number) value has = on _ RingingOffer Closed tt tt
next_frames config (ReadingAvailIndex taken last) value has =
    let found = published_by taken value in
    on _ (if found == 0 then none_place taken last else items_place taken found) Refusing
    (on _ (none_place taken last) (items_place taken found) (on last Closed (WritingAvailEvent taken) tt tt) (takes taken found)) tt
next_frames config (ReadingAvailEntry number more) value has = on _ (ReadingDescAddressLow number more _) Refusing tt tt
next_frames config (ReadingDescAddressHigh number more entry low) value has = on _ (ReadingDescLength number more entry _) Refusing tt tt
next_frames config (ReadingDescLength number more entry address) value has = at_length config number more entry address value (is_desc_length config.sizes address value) refl
next_frames config (ReadingDescFlags number more entry address bytes) value has = on _ (words_place number more entry address bytes [] (words_for bytes)) Refusing (reads number more entry address bytes [] (words_for bytes) has) tt
next_frames config (ReadingFrameWord number more entry address bytes read words) value has = reads number more entry address bytes (read ++ value ∷ []) words has
next_frames config (WritingUsedIndex number more) value has = takes (number + 1) more
next_frames config _ value has = tt

-- A frame read from its words has a byte.
some_bytes : (bytes : ℕ) (read : List ℕ) (value : ℕ) → SHORTEST_FRAME ≤ bytes → length (frame_in bytes (read ++ value ∷ [])) ≢ 0
some_bytes (suc bytes) [] value least = λ none. cc
some_bytes (suc bytes) (word ∷ read) value least = λ none. cc
some_bytes zero read value least = absurd (omega arith)

not_none : (n : ℕ) → n ≢ 0 → not (n == 0) ≡ true
not_none n some = grind (arith, nat_tests)

frameless_frames : (me : ℕ) → Frameless (λ marks. HaveFrames (map (mark_line me) marks))
frameless_frames me = record {
  none = refl;
  saw = λ v. refl;
  saw_over = λ v. refl;
  over = refl;
  down = refl;
  reclaim = λ count. refl;
  reclaim_full = refl;
  full = refl;
  refused = λ r. refl;
  look = λ count. refl;
  look_done = refl;
  returns = refl;
  finished = refl;
}

one_accepted : (me : ℕ) (frame : List ℕ) → length frame ≢ 0 → HaveFrames (map (mark_line me) (Accept frame ∷ []))
one_accepted me frame some = rw (not_none (length frame) some) refl

one_delivered : (me : ℕ) (frame : List ℕ) → length frame ≢ 0 → HaveFrames (map (mark_line me) (Deliver frame ∷ []))
one_delivered me frame some = rw (not_none (length frame) some) refl

least_some : (n : ℕ) → SHORTEST_FRAME ≤ n → n ≢ 0
least_some n least = λ none. omega arith

-- The marks of a step have frames with a byte.
pub marks_frames : (me : ℕ) (config : EndConfig) (place : Place) (value : ℕ) → HasFrames place → HaveFrames (map (mark_line me) (marks_at config place value))
marks_frames me config place value has = marks_hold (λ marks. HaveFrames (map (mark_line me) marks)) (frameless_frames me) config place value
    (λ pending is. one_accepted me pending.frame (least_some (length pending.frame) (subst HasFrames is has)))
    (λ number more entry address bytes read words is. one_delivered me (frame_in bytes (read ++ value ∷ [])) (some_bytes bytes read value (subst HasFrames is has)))
