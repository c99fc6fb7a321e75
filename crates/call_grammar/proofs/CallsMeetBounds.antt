-- A finished call meets its bound.
use Rattle.std.proofs.Common.{◌≡◌, ℕ, zero, suc, ◌+◌, ◌*◌, ◌<◌, ◌≤◌, inl, inr, List, [], ◌∷◌, ◌++◌, length, refl, ap, arith, length-append, ne_eqb}
use Rattle.std.specs.Prelude.{◌==◌, Bool, true, false, not, ◌||◌, if◌then◌else◌, flat_map}
use Rattle.std.proofs.lemmas.List.{length-take-le}
use Rattle.link_handshake.specs.declared.Phase.{Phase}
use Rattle.link_handshake.specs.declared.Phase.TheVariants.{Reset, Init, Ready, Run}
use Rattle.link_handshake.specs.declared.Move.{Move}
use Rattle.link_handshake.specs.declared.Move.TheVariants.{Stay, Set, ClearThenSet}
use Rattle.link_handshake.specs.HandshakeState.{move_of}
use Rattle.split_ring.specs.declared.ranges.FieldName.TheVariants as field_name
use Rattle.split_ring.specs.Spelling.{low_half}
use Rattle.split_ring.specs.Layout.{has_events, limit_of}
use Rattle.call_grammar.specs.Steps.{Mark, Deliver, Done, Over, Step}
use Rattle.call_grammar.specs.Words.{word_bytes, words_for, frame_in}
use Rattle.call_grammar.specs.Ticks.{EndConfig, clear_steps, tick_steps, state_step}
use Rattle.call_grammar.specs.Offers.{PendingOffer, refusal, refused_steps, used_id_step, used_id_steps, frame_write_steps, publish_steps, wants_doorbell, doorbell_step, avail_event_read_step, notify_steps, full_marks, returned_by, IsOffer}
use Rattle.call_grammar.specs.Polls.{Item, item_entry, item_address, word_steps, return_steps, IsValidItem, item_steps, AreValidItems, items_steps, IsRefusedItem, is_last, IsLook, FindsNothing, LooksAgain, IsPoll}
use Rattle.call_grammar.specs.Calls.{Tick, Stop, Offer, Poll, RunsOrIsDown, pending_of}
use Rattle.call_grammar.proofs.OfferLists.{no}
use Rattle.call_grammar.specs.StepBounds.{marks_bound, items_bound, CallsMeetBounds, OtherCallsMeetBounds}

clear_length : (at count : ℕ) → length (clear_steps at count) ≡ count
clear_length at zero = refl
clear_length at (suc more) = let e = clear_length (at + 1) more in omega arith

tick_length : (config : EndConfig) (value : ℕ) (move : Move) → length (tick_steps config value move) ≤ config.words + 2
tick_length config value Stay = omega arith
tick_length config value (Set state) = omega arith
tick_length config value (ClearThenSet state) = omega (arith, clear_length config.own config.words, length-append (clear_steps config.own config.words) (state_step state ∷ []))

ids_length : (config : EndConfig) (freed count : ℕ) (marks : List Mark) → length (used_id_steps config freed count marks) ≡ count
ids_length config freed zero marks = refl
ids_length config freed (suc more) marks = let e = ids_length config (freed + 1) more marks in omega arith

fill_length : (config : EndConfig) (pending : PendingOffer) (at count : ℕ) → length (frame_write_steps config pending at count) ≡ count
fill_length config pending at zero = refl
fill_length config pending at (suc more) = let e = fill_length config pending (at + 1) more in omega arith

-- A notification has one step, or at most two in a link with events.
abbrev notify_bound : Bool → ℕ
notify_bound b = if b then 2 else 1

notify_length : (config : EndConfig) (number value : ℕ) (b asks : Bool) → length (if b then avail_event_read_step config number value ∷ (if asks then doorbell_step config (Over ∷ []) ∷ [] else []) else doorbell_step config (Over ∷ []) ∷ []) ≤ notify_bound b
notify_length config number value true true = omega arith
notify_length config number value true false = omega arith
notify_length config number value false asks = omega arith

-- The steps of an offer without its notification.
abbrev offer_bound : Bool → ℕ
offer_bound b = if b then 9 else 8

offer_bounds : (b : Bool) → offer_bound b ≡ 7 + notify_bound b
offer_bounds true = refl
offer_bounds false = refl

offer_length : (config : EndConfig) (pending : PendingOffer) (freed : ℕ) (steps : List Step) → pending.number ≤ freed + limit_of config.sizes → IsOffer config pending freed steps → length steps ≤ limit_of config.sizes + words_for (length pending.frame) + offer_bound (has_events config.sizes)
offer_length config pending freed steps room (inl r) = let e = ap length r.steps_are in let more = offer_bounds (has_events config.sizes) in omega arith
offer_length config pending freed steps room (inr (inl r)) = let within = r.within in let more = offer_bounds (has_events config.sizes) in let before = r.before in omega (arith, ap length r.steps_are, ids_length config freed r.passed [], length-append (used_id_steps config freed r.passed []) (refused_steps (used_id_step config (freed + r.passed) r.id (refusal field_name.UsedId r.id))))
offer_length config pending freed steps room (inr (inr (inl r))) = let within = r.within in let more = offer_bounds (has_events config.sizes) in omega (arith, ap length r.steps_are, ids_length config freed (returned_by freed r.value) (full_marks config pending (freed + returned_by freed r.value)))
offer_length config pending freed steps room (inr (inr (inr r))) = let within = r.within in let more = offer_bounds (has_events config.sizes) in omega (
  arith,
  ap length r.steps_are,
  ids_length config freed (returned_by freed r.value) (full_marks config pending (freed + returned_by freed r.value)),
  length-append (used_id_steps config freed (returned_by freed r.value) (full_marks config pending (freed + returned_by freed r.value))) (frame_write_steps config pending 0 (words_for (length pending.frame)) ++ (publish_steps config pending ++ notify_steps config pending.number r.event)),
  length-append (frame_write_steps config pending 0 (words_for (length pending.frame))) (publish_steps config pending ++ notify_steps config pending.number r.event),
  notify_length config pending.number r.event (has_events config.sizes) (wants_doorbell (low_half r.event) pending.number),
  fill_length config pending 0 (words_for (length pending.frame)),
)

bound-append : (xs ys : List Step) → items_bound (xs ++ ys) ≡ items_bound xs + items_bound ys
bound-append [] ys = omega arith
bound-append (x ∷ xs) ys = let e = bound-append xs ys in omega arith

bytes_length : (words : List ℕ) → length (flat_map word_bytes words) ≡ 4 * length words
bytes_length [] = refl
bytes_length (word ∷ words) = let e = bytes_length words in omega arith

pub frame_length : (bytes : ℕ) (words : List ℕ) → length words ≡ words_for bytes → length (frame_in bytes words) ≡ bytes
frame_length bytes words is = length-take-le bytes (flat_map word_bytes words) (let e = bytes_length words in omega arith)

-- The reads of the frame's words, of which the last delivers.
words_length : (config : EndConfig) (address at : ℕ) (words : List ℕ) (marks : List Mark) → length (word_steps config address at words marks) ≡ length words
words_length config address at [] marks = refl
words_length config address at (word ∷ words) marks = let e = words_length config address (at + 1) words marks in omega arith

-- A step that isn't the last has no marks.
unmarked : (n : ℕ) (marks : List Mark) → 0 < n → marks_bound (if n == 0 then marks else []) ≡ 0
unmarked n marks some = ap marks_bound (no (n == 0) marks [] (ne_eqb n 0 (λ e. omega arith)))

words_bound : (config : EndConfig) (address at : ℕ) (words : List ℕ) (marks : List Mark) → 0 < length words → items_bound (word_steps config address at words marks) ≡ marks_bound marks
words_bound config address at [] marks some = absurd (omega arith)
words_bound config address at (word ∷ []) marks some = omega arith
words_bound config address at (word ∷ (next ∷ words)) marks some = let e = words_bound config address (at + 1) (next ∷ words) marks (omega arith) in let first = unmarked (length (next ∷ words)) marks (omega arith) in omega arith

item_length : (config : EndConfig) (number : ℕ) (read : Item) → IsValidItem config number read → length (item_steps config number read) ≡ items_bound (item_steps config number read)
item_length config number read good = let marks = Deliver (frame_in read.bytes read.words) ∷ [] in let e = item_entry config number read in let a = item_address read in let n = good.words in let least = good.bytes.0 in
    let bound = words_bound config a 0 read.words marks (omega arith) in let size = frame_length read.bytes read.words good.words in
    omega (arith, length-append (word_steps config a 0 read.words marks) (return_steps config number e), words_length config a 0 read.words marks, bound-append (word_steps config a 0 read.words marks) (return_steps config number e))

items_length : (config : EndConfig) (number : ℕ) (reads : List Item) → AreValidItems config number reads → length (items_steps config number reads) ≡ items_bound (items_steps config number reads)
items_length config number [] good = refl
items_length config number (read ∷ reads) good = let one = item_length config number read good.0 in let others = items_length config (number + 1) reads good.1 in
    omega (arith, length-append (item_steps config number read) (items_steps config (number + 1) reads), bound-append (item_steps config number read) (items_steps config (number + 1) reads))

refused_length : (config : EndConfig) (number : ℕ) (read : Item) (steps : List Step) → IsRefusedItem config number read steps → length steps ≤ items_bound steps
refused_length config number read steps (inl is) = let n = ap length is.1 in let b = ap items_bound is.1 in omega arith
refused_length config number read steps (inr (inl is)) = let n = ap length is.2 in let b = ap items_bound is.2 in omega arith
refused_length config number read steps (inr (inr (inl is))) = let n = ap length is.3 in let b = ap items_bound is.3 in omega arith
refused_length config number read steps (inr (inr (inr is))) = let n = ap length is.4 in let b = ap items_bound is.4 in omega arith

look_length : (config : EndConfig) (taken : ℕ) (FindsNone : List Step → Type 0) (steps : List Step) (bound : ℕ) → 2 ≤ bound → (FindsNone steps → length steps ≤ bound + items_bound steps) → IsLook config taken FindsNone steps → length steps ≤ bound + items_bound steps
look_length config taken FindsNone steps bound two none (inl r) = let n = ap length r.steps_are in omega arith
look_length config taken FindsNone steps bound two none (inr (inl r)) = none r
look_length config taken FindsNone steps bound two none (inr (inr (inl r))) = let n = ap length r.steps_are in let b = ap items_bound r.steps_are in let items = items_length config taken r.reads r.good in
    omega (arith, length-append (items_steps config taken r.reads) (doorbell_step config (Done ∷ []) ∷ []), bound-append (items_steps config taken r.reads) (doorbell_step config (Done ∷ []) ∷ []))
look_length config taken FindsNone steps bound two none (inr (inr (inr r))) = let n = ap length r.steps_are in let b = ap items_bound r.steps_are in let items = items_length config taken r.reads r.good in let last = refused_length config (taken + length r.reads) r.last r.last_steps r.refused in
    omega (arith, length-append (items_steps config taken r.reads) r.last_steps, bound-append (items_steps config taken r.reads) r.last_steps)

nothing_length : (config : EndConfig) (taken : ℕ) (steps : List Step) → FindsNothing config taken steps → length steps ≤ 2 + items_bound steps
nothing_length config taken steps r = let n = ap length r.steps_are in omega arith

again_length : (config : EndConfig) (taken : ℕ) (steps : List Step) → LooksAgain config taken steps → length steps ≤ 4 + items_bound steps
again_length config taken steps r = let n = ap length r.steps_are in let b = ap items_bound r.steps_are in
    let rest = look_length config taken (FindsNothing config taken) r.rest 2 (omega arith) (nothing_length config taken r.rest) r.again in omega arith

-- A poll whose first read of the available index isn't its last is a poll in a link with events.
poll_length : (config : EndConfig) (taken : ℕ) (events found_none : Bool) (steps : List Step) → IsPoll config taken (not events || found_none) steps → length steps ≤ (if events then 4 else 2) + items_bound steps
poll_length config taken false found_none steps is = look_length config taken (FindsNothing config taken) steps 2 (omega arith) (nothing_length config taken steps) is
poll_length config taken true true steps is = let n = look_length config taken (FindsNothing config taken) steps 2 (omega arith) (nothing_length config taken steps) is in omega arith
poll_length config taken true false steps is = look_length config taken (LooksAgain config taken) steps 4 (omega arith) (again_length config taken steps) is

poll_some : (b : Bool) (n : ℕ) → 1 ≤ (if b then 4 else 2) + n
poll_some true n = omega arith
poll_some false n = omega arith

-- A call that is down has one step.
by_phase : (phase : Phase) (Runs : Type 0) (steps : List Step) (bound : ℕ) → 1 ≤ bound → (Runs → length steps ≤ bound) → RunsOrIsDown phase Runs steps → length steps ≤ bound
by_phase Reset Runs steps bound one runs is = let n = ap length is in omega arith
by_phase Init Runs steps bound one runs is = let n = ap length is in omega arith
by_phase Ready Runs steps bound one runs is = let n = ap length is in omega arith
by_phase Run Runs steps bound one runs is = runs is

-- A call other than an offer.
pub others_bounding : OtherCallsMeetBounds
others_bounding config end Tick steps no_offer is = let n = ap length is.1 in omega (arith, tick_length config is.0 (move_of end.handshake is.0))
others_bounding config end Stop steps no_offer is = let n = ap length is in omega arith
others_bounding config end (Offer frame) steps no_offer is = absurd (cc)
others_bounding config end Poll steps no_offer is = by_phase end.handshake.phase (IsPoll config (length end.delivered) (is_last config end.found_none) steps) steps ((if has_events config.sizes then 4 else 2) + items_bound steps) (poll_some (has_events config.sizes) (items_bound steps)) (poll_length config (length end.delivered) (has_events config.sizes) end.found_none steps) is

pub bounding : CallsMeetBounds
bounding config end (Offer frame) steps room is = by_phase end.handshake.phase (IsOffer config (pending_of config end frame) end.freed steps) steps (limit_of config.sizes + words_for (length frame) + offer_bound (has_events config.sizes)) (let more = offer_bounds (has_events config.sizes) in omega arith) (offer_length config (pending_of config end frame) end.freed steps room) is
bounding config end Tick steps room is = others_bounding config end Tick steps refl is
bounding config end Stop steps room is = others_bounding config end Stop steps refl is
bounding config end Poll steps room is = others_bounding config end Poll steps refl is
