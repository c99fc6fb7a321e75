-- The numbered places and the places of call_grammar.
use Rattle.std.proofs.Common.{◌≡◌, ℕ, zero, suc, ◌+◌, ◌-◌, ◌/◌, ◌<◌, Bool, true, false, List, [], ◌∷◌, ◌++◌, length, get_or, refl, sym, ap, ◌∙◌, arith, length-append}
use Rattle.std.specs.Prelude.{◌==◌, nat_lt, if◌then◌else◌, ◌%◌}
use Rattle.std.proofs.lemmas.Bool.Decides.{nat_tests}
use mathlib.Core.Logic.{dite}
use native.Mathlib.Decide.{dec_lt}
use Rattle.link_handshake.specs.declared.Move.{Move}
use Rattle.link_handshake.specs.declared.Move.TheVariants.{Stay, Set, ClearThenSet}
use Rattle.split_ring.specs.declared.steps.Access.TheVariants.{Read}
use Rattle.link_handshake.specs.HandshakeState.{move_of}
use Rattle.split_ring.specs.Layout.{has_events}
use Rattle.split_ring.specs.Spelling.{low_half, high_half, desc_flags}
use Rattle.split_ring.specs.Ranges.{is_avail_entry, is_desc_address, is_desc_length, is_avail_index, is_desc_flags, is_used_index, is_used_id}
use Rattle.call_grammar.specs.Steps.{Step, Deliver, step_of}
use Rattle.call_grammar.specs.Ends.{End}
use Rattle.call_grammar.specs.Ticks.{EndConfig, clear_steps, state_step}
use Rattle.call_grammar.specs.Words.{words_for, frame_word, frame_in, address_of}
use Rattle.call_grammar.specs.Polls.{return_steps, entry_in, published_by}
use Rattle.call_grammar.specs.Offers.{PendingOffer, start_at, publish_steps, write_step, frame_fits, descriptor_of, returned_by, wants_doorbell}
use Rattle.call_grammar.specs.Calls.{Call, Tick, Stop, Offer, Poll, in_run, down_step}
use Rattle.call_grammar.specs.Places as old
use Rattle.call_grammar.proofs.OfferLists.{yes, no}
use Rattle.call_grammar.specs.Tasks.{Task, WritingState, Refusing, NotInRun, Publishing, WritingAvailEvent, Returning, RingingOffer, RingingPoll, steps_of}
use Rattle.call_grammar.specs.PlaceTable.{Place, Closed, Doing, ReadingOtherState, ReadingUsedIndex, ReadingUsedId, ReadingAvailEvent, ReadingAvailIndex, ReadingItem, step_at, next_place, place_after, doing, begin, tick_place, ids_place, items_place, item_place, first_place}
use Rattle.call_grammar.specs.SamePlaces.{later_place, returning_place, task_place, place_of, IsReached, PlacesAreTheSame}
use Rattle.call_grammar.proofs.OfferWrites.{frame_write_at, after_words, frame_writes_length, next_write}

-- The place of a write of an offer: a word of the frame, or one after them.
frame_place : (config : EndConfig) (pending : PendingOffer) (at more : ℕ) → words_for (length pending.frame) ≡ at + suc more → task_place config (Publishing pending) at ≡ old.WritingFrameWord pending at more
frame_place config pending at more is = let n : words_for (length pending.frame) - at ≡ suc more = omega arith in yes (nat_lt at (words_for (length pending.frame))) _ _ (grind (arith, nat_tests)) ∙ ap (old.fill_place pending at) n

field_place : (config : EndConfig) (pending : PendingOffer) (at k : ℕ) → at ≡ words_for (length pending.frame) + k → task_place config (Publishing pending) at ≡ later_place pending k
field_place config pending at k is = let n : at - words_for (length pending.frame) ≡ k = omega arith in no (nat_lt at (words_for (length pending.frame))) _ _ (grind (arith, nat_tests)) ∙ ap (later_place pending) n

-- The step there, and the next place.
word_step : (config : EndConfig) (pending : PendingOffer) (at value : ℕ) → at < words_for (length pending.frame) → old.step_at config (task_place config (Publishing pending) at) value ≡ get_or (steps_of config (Publishing pending)) at down_step
word_step config pending at value lt = ap (λ (p : old.Place). old.step_at config p value) (frame_place config pending at (words_for (length pending.frame) - at - 1) (omega arith)) ∙
    (let zero : at ≡ 0 + at = omega arith in ap (λ j. write_step (config.own + start_at config pending / 4 + j) (frame_word pending.frame j) []) zero ∙ sym (frame_write_at config pending 0 (words_for (length pending.frame)) at (publish_steps config pending) lt))

field_step : (config : EndConfig) (pending : PendingOffer) (k value : ℕ) → k < 6 → old.step_at config (later_place pending k) value ≡ get_or (publish_steps config pending) k down_step
field_step config pending zero value lt = refl
field_step config pending (suc zero) value lt = refl
field_step config pending (suc (suc zero)) value lt = refl
field_step config pending (suc (suc (suc zero))) value lt = refl
field_step config pending (suc (suc (suc (suc zero)))) value lt = refl
field_step config pending (suc (suc (suc (suc (suc zero))))) value lt = refl
field_step config pending (suc (suc (suc (suc (suc (suc k)))))) value lt = absurd (omega arith)

pub publishing_step : (config : EndConfig) (pending : PendingOffer) (at value : ℕ) → at < words_for (length pending.frame) + 6 → old.step_at config (task_place config (Publishing pending) at) value ≡ get_or (steps_of config (Publishing pending)) at down_step
publishing_step config pending at value lt = dite (dec_lt at (words_for (length pending.frame))) (λ word. word_step config pending at value word) (λ past. let k = at - words_for (length pending.frame) in
    ap (λ (p : old.Place). old.step_at config p value) (field_place config pending at k (omega arith)) ∙ (field_step config pending k value (omega arith) ∙ sym (after_words config pending 0 (words_for (length pending.frame)) at k (publish_steps config pending) (omega arith))))

field_next : (config : EndConfig) (pending : PendingOffer) (k value : ℕ) → k < 5 → old.next_place config (later_place pending k) value ≡ later_place pending (suc k)
field_next config pending zero value lt = refl
field_next config pending (suc zero) value lt = refl
field_next config pending (suc (suc zero)) value lt = refl
field_next config pending (suc (suc (suc zero))) value lt = refl
field_next config pending (suc (suc (suc (suc zero)))) value lt = refl
field_next config pending (suc (suc (suc (suc (suc k))))) value lt = absurd (omega arith)

-- Before the last write the next place is the next number.
pub publishing_next : (config : EndConfig) (pending : PendingOffer) (at value : ℕ) → at < words_for (length pending.frame) + 5 → task_place config (Publishing pending) (at + 1) ≡ old.next_place config (task_place config (Publishing pending) at) value
publishing_next config pending at value lt = dite (dec_lt at (words_for (length pending.frame)))
    (λ word. sym (ap (λ (p : old.Place). old.next_place config p value) (frame_place config pending at (words_for (length pending.frame) - at - 1) (omega arith)) ∙ by_more (words_for (length pending.frame) - at - 1) (omega arith)))
    (λ past. let k = at - words_for (length pending.frame) in field_place config pending (at + 1) (suc k) (omega arith) ∙ (sym (field_next config pending k value (omega arith)) ∙ sym (ap (λ (p : old.Place). old.next_place config p value) (field_place config pending at k (omega arith)))))
  where
    by_more : (more : ℕ) → words_for (length pending.frame) ≡ at + suc more → old.fill_place pending (at + 1) more ≡ task_place config (Publishing pending) (at + 1)
    by_more zero is = sym (field_place config pending (at + 1) 0 (omega arith))
    by_more (suc more) is = sym (frame_place config pending (at + 1) more (omega arith))

-- The words of a section that is cleared, and the State step after them.
clear_at : (from n k : ℕ) (state value : ℕ) (config : EndConfig) → k < n + 1 → old.step_at config (old.clear_place (from + k) (n - k) state) value ≡ get_or (clear_steps from n ++ state_step state ∷ []) k down_step
clear_at from zero zero state value config lt = let none : 0 - 0 ≡ 0 = omega arith in ap (λ j. old.step_at config (old.clear_place (from + 0) j state) value) none
clear_at from zero (suc k) state value config lt = absurd (omega arith)
clear_at from (suc n) zero state value config lt = let zero : from + 0 ≡ from = omega arith in let all : suc n - 0 ≡ suc n = omega arith in
    ap (λ j. old.step_at config (old.clear_place (from + 0) j state) value) all ∙ ap (λ j. write_step j 0 []) zero
clear_at from (suc n) (suc k) state value config lt = ap (λ (p : old.Place). old.step_at config p value) (places (omega arith) (omega arith)) ∙ clear_at (from + 1) n k state value config (omega arith)
  where
    places : from + suc k ≡ from + 1 + k → suc n - suc k ≡ n - k → old.clear_place (from + suc k) (suc n - suc k) state ≡ old.clear_place (from + 1 + k) (n - k) state
    places e f = ap (λ j. old.clear_place j (suc n - suc k) state) e ∙ ap (λ j. old.clear_place (from + 1 + k) j state) f

clear_next : (config : EndConfig) (at more state value : ℕ) → old.next_place config (old.clear_place at (suc more) state) value ≡ old.clear_place (at + 1) more state
clear_next config at more state value = refl

-- Each task, and each field of an item.
clears_length : (from n : ℕ) (state : ℕ) → length (clear_steps from n ++ state_step state ∷ []) ≡ n + 1
clears_length from zero state = omega arith
clears_length from (suc n) state = omega (arith, clears_length (from + 1) n state)

returning_step : (config : EndConfig) (number more entry at value : ℕ) → at < 3 → old.step_at config (returning_place number more entry at) value ≡ get_or (return_steps config number entry) at down_step
returning_step config number more entry zero value lt = refl
returning_step config number more entry (suc zero) value lt = refl
returning_step config number more entry (suc (suc zero)) value lt = refl
returning_step config number more entry (suc (suc (suc at))) value lt = absurd (omega arith)

one : (step : Step) (at : ℕ) → at < 1 → step ≡ get_or (step ∷ []) at down_step
one step zero lt = refl
one step (suc at) lt = absurd (omega arith)

pub task_step : (config : EndConfig) (task : Task) (at value : ℕ) → at < length (steps_of config task) → old.step_at config (task_place config task at) value ≡ get_or (steps_of config task) at down_step
task_step config (WritingState false state) at value lt = one _ at lt
task_step config (WritingState true state) at value lt = clear_at config.own config.words at state value config (let n = clears_length config.own config.words state in omega arith)
task_step config Refusing at value lt = one _ at lt
task_step config NotInRun at value lt = one _ at lt
task_step config (Publishing pending) at value lt = publishing_step config pending at value (let n = frame_writes_length config pending 0 (words_for (length pending.frame)) (publish_steps config pending) in omega arith)
task_step config (WritingAvailEvent taken) at value lt = one _ at lt
task_step config (Returning number more entry) at value lt = returning_step config number more entry at value lt
task_step config RingingOffer at value lt = one _ at lt
task_step config RingingPoll at value lt = one _ at lt

word_marks : (l value : ℕ) (words : List ℕ) → length words < words_for l →
    (if words_for l - length words - 1 == 0 then Deliver (frame_in l (words ++ value ∷ [])) ∷ [] else []) ≡ (if length words + 1 == words_for l then Deliver (frame_in l (words ++ value ∷ [])) ∷ [] else [])
word_marks l value words lt = ap (λ (b : Bool). if b then Deliver (frame_in l (words ++ value ∷ [])) ∷ [] else []) same
  where
    same : (words_for l - length words - 1 == 0) ≡ (length words + 1 == words_for l)
    same = dite (dec_lt (length words + 1) (words_for l)) (λ more. grind (arith, nat_tests)) (λ last. grind (arith, nat_tests))

pub place_step : (config : EndConfig) (place : Place) (value : ℕ) → IsReached config place → old.step_at config (place_of config place) value ≡ step_at config place value
place_step config Closed value is = refl
place_step config (Doing task at) value is = task_step config task at value is
place_step config (ReadingOtherState handshake) value is = refl
place_step config (ReadingUsedIndex pending freed) value is = refl
place_step config (ReadingUsedId pending freed more) value is = refl
place_step config (ReadingAvailEvent number) value is = refl
place_step config (ReadingAvailIndex taken last) value is = refl
place_step config (ReadingItem number more []) value is = refl
place_step config (ReadingItem number more (e ∷ [])) value is = refl
place_step config (ReadingItem number more (e ∷ lo ∷ [])) value is = refl
place_step config (ReadingItem number more (e ∷ lo ∷ a ∷ [])) value is = refl
place_step config (ReadingItem number more (e ∷ lo ∷ a ∷ l ∷ [])) value is = refl
place_step config (ReadingItem number more (e ∷ lo ∷ a ∷ l ∷ f ∷ words)) value is = ap (step_of (Read (config.other_start + (a / 4 + length words))) value) (word_marks l value words is)

-- The next places

chosen : (config : EndConfig) (b : Bool) (p q : Place) (p' q' : old.Place) → place_of config p ≡ p' → place_of config q ≡ q' → place_of config (if b then p else q) ≡ (if b then p' else q')
chosen config true p q p' q' e f = e
chosen config false p q p' q' e f = f

items_same : (config : EndConfig) (number count : ℕ) → place_of config (items_place number count) ≡ old.items_place number count
items_same config number zero = refl
items_same config number (suc more) = refl

-- The first write of an offer: a frame without words is published at once.
begin_same : (config : EndConfig) (pending : PendingOffer) (n : ℕ) → words_for (length pending.frame) ≡ n → task_place config (Publishing pending) 0 ≡ old.fill_place pending 0 n
begin_same config pending zero is = field_place config pending 0 0 (omega arith)
begin_same config pending (suc more) is = frame_place config pending 0 more (omega arith)

ids_same : (config : EndConfig) (pending : PendingOffer) (freed count : ℕ) → place_of config (ids_place config pending freed count) ≡ old.ids_place config pending freed count
ids_same config pending freed zero = chosen config (frame_fits config pending freed) (begin (Publishing pending)) Closed _ old.Closed (begin_same config pending (words_for (length pending.frame)) refl) refl
ids_same config pending freed (suc more) = refl

start_clear : (config : EndConfig) (state : ℕ) → task_place config (WritingState true state) 0 ≡ old.clear_place config.own config.words state
start_clear config state = let a : config.own + 0 ≡ config.own = omega arith in let n : config.words - 0 ≡ config.words = omega arith in ap (λ j. old.clear_place j (config.words - 0) state) a ∙ ap (λ j. old.clear_place config.own j state) n

tick_same : (config : EndConfig) (move : Move) → place_of config (tick_place move) ≡ old.tick_place config move
tick_same config Stay = refl
tick_same config (Set state) = refl
tick_same config (ClearThenSet state) = start_clear config state

clear_goes : (config : EndConfig) (state at value : ℕ) → at < config.words + 1 → place_of config (doing config (WritingState true state) (at + 1)) ≡ old.next_place config (task_place config (WritingState true state) at) value
clear_goes config state at value lt = let n = clears_length config.own config.words state in dite (dec_lt at config.words)
    (λ more. let left : config.words - at ≡ suc (config.words - (at + 1)) = omega arith in let from : config.own + (at + 1) ≡ config.own + at + 1 = omega arith in
    ap (place_of config) (no (at + 1 == length (steps_of config (WritingState true state))) Closed (Doing (WritingState true state) (at + 1)) (grind (arith, nat_tests))) ∙
    (ap (λ j. old.clear_place j (config.words - (at + 1)) state) from ∙ sym (ap (λ j. old.next_place config (old.clear_place (config.own + at) j state) value) left)))
    (λ last. let none : config.words - at ≡ 0 = omega arith in
    ap (place_of config) (yes (at + 1 == length (steps_of config (WritingState true state))) Closed (Doing (WritingState true state) (at + 1)) (grind (arith, nat_tests))) ∙
    sym (ap (λ j. old.next_place config (old.clear_place (config.own + at) j state) value) none))

publishing_goes : (config : EndConfig) (pending : PendingOffer) (at value : ℕ) → at < words_for (length pending.frame) + 6 → place_of config (doing config (Publishing pending) (at + 1)) ≡ old.next_place config (task_place config (Publishing pending) at) value
publishing_goes config pending at value lt = let n = frame_writes_length config pending 0 (words_for (length pending.frame)) (publish_steps config pending) in dite (dec_lt at (words_for (length pending.frame) + 5))
    (λ more. ap (place_of config) (next_write config pending at value more) ∙ publishing_next config pending at value more)
    (λ last. ap (place_of config) (yes (at + 1 == length (steps_of config (Publishing pending))) (place_after config (Publishing pending)) (Doing (Publishing pending) (at + 1)) (grind (arith, nat_tests))) ∙
    (chosen config (has_events config.sizes) (ReadingAvailEvent pending.number) (begin RingingOffer) (old.ReadingAvailEvent pending.number) old.RingingOffer refl refl ∙
    sym (ap (λ (p : old.Place). old.next_place config p value) (field_place config pending at 5 (omega arith)))))

task_next : (config : EndConfig) (task : Task) (at value : ℕ) → at < length (steps_of config task) → place_of config (doing config task (at + 1)) ≡ old.next_place config (task_place config task at) value
task_next config (WritingState true state) at value lt = clear_goes config state at value (let n = clears_length config.own config.words state in omega arith)
task_next config (Publishing pending) at value lt = publishing_goes config pending at value (let n = frame_writes_length config pending 0 (words_for (length pending.frame)) (publish_steps config pending) in omega arith)
task_next config (Returning number more entry) zero value lt = refl
task_next config (Returning number more entry) (suc zero) value lt = refl
task_next config (Returning number more entry) (suc (suc zero)) value lt = items_same config (number + 1) more
task_next config (Returning number more entry) (suc (suc (suc at))) value lt = absurd (omega arith)
task_next config (WritingState false state) zero value lt = refl
task_next config (WritingState false state) (suc at) value lt = absurd (omega arith)
task_next config Refusing zero value lt = refl
task_next config Refusing (suc at) value lt = absurd (omega arith)
task_next config NotInRun zero value lt = refl
task_next config NotInRun (suc at) value lt = absurd (omega arith)
task_next config (WritingAvailEvent taken) zero value lt = refl
task_next config (WritingAvailEvent taken) (suc at) value lt = absurd (omega arith)
task_next config RingingOffer zero value lt = refl
task_next config RingingOffer (suc at) value lt = absurd (omega arith)
task_next config RingingPoll zero value lt = refl
task_next config RingingPoll (suc at) value lt = absurd (omega arith)

-- After a word of a frame, or after the flags.
words_same : (config : EndConfig) (number more e lo a l f : ℕ) (words : List ℕ) (count : ℕ) → length words + count ≡ words_for l →
    place_of config (item_place number more (e ∷ lo ∷ a ∷ l ∷ f ∷ words)) ≡ old.words_place number more e a l words count
words_same config number more e lo a l f words zero is = ap (place_of config) (yes (length words == words_for l) (begin (Returning number more e)) (ReadingItem number more (e ∷ lo ∷ a ∷ l ∷ f ∷ words)) (grind (arith, nat_tests)))
words_same config number more e lo a l f words (suc count) is = let left : words_for l - length words - 1 ≡ count = omega arith in
    ap (place_of config) (no (length words == words_for l) (begin (Returning number more e)) (ReadingItem number more (e ∷ lo ∷ a ∷ l ∷ f ∷ words)) (grind (arith, nat_tests))) ∙ ap (old.ReadingFrameWord number more e a l words) left

place_next : (config : EndConfig) (place : Place) (value : ℕ) → IsReached config place → place_of config (next_place config place value) ≡ old.next_place config (place_of config place) value
place_next config Closed value is = refl
place_next config (Doing task at) value is = task_next config task at value is
place_next config (ReadingOtherState handshake) value is = tick_same config (move_of handshake value)
place_next config (ReadingUsedIndex pending freed) value is = chosen config (is_used_index (freed % 65536) (high_half value) (pending.number - freed)) (ids_place config pending freed (returned_by freed value)) (begin Refusing) _ old.Refusing (ids_same config pending freed (returned_by freed value)) refl
place_next config (ReadingUsedId pending freed more) value is = chosen config (is_used_id (descriptor_of config freed) value) (ids_place config pending (freed + 1) more) (begin Refusing) _ old.Refusing (ids_same config pending (freed + 1) more) refl
place_next config (ReadingAvailEvent number) value is = chosen config (wants_doorbell (low_half value) number) (begin RingingOffer) Closed old.RingingOffer old.Closed refl refl
place_next config (ReadingAvailIndex taken last) value is = chosen config (is_avail_index config.sizes (taken % 65536) (high_half value)) _ (begin Refusing) _ old.Refusing
    (chosen config (published_by taken value == 0) _ (items_place taken (published_by taken value)) _ _ (chosen config last Closed (begin (WritingAvailEvent taken)) old.Closed (old.WritingAvailEvent taken) refl refl) (items_same config taken (published_by taken value))) refl
place_next config (ReadingItem number more []) value is = chosen config (is_avail_entry config.sizes (entry_in config number value)) _ (begin Refusing) _ old.Refusing refl refl
place_next config (ReadingItem number more (e ∷ [])) value is = refl
place_next config (ReadingItem number more (e ∷ lo ∷ [])) value is = chosen config (is_desc_address config.sizes (address_of lo value)) _ (begin Refusing) _ old.Refusing refl refl
place_next config (ReadingItem number more (e ∷ lo ∷ a ∷ [])) value is = chosen config (is_desc_length config.sizes a value) _ (begin Refusing) _ old.Refusing refl refl
place_next config (ReadingItem number more (e ∷ lo ∷ a ∷ l ∷ [])) value is = chosen config (is_desc_flags (desc_flags value)) _ (begin Refusing) _ old.Refusing (words_same config number more e lo a l (desc_flags value) [] (words_for l) (omega arith)) refl
place_next config (ReadingItem number more (e ∷ lo ∷ a ∷ l ∷ f ∷ words)) value is =
    words_same config number more e lo a l f (words ++ value ∷ []) (words_for l - length words - 1) (omega (arith, length-append words (value ∷ [])))

first_same : (config : EndConfig) (end : End) (call : Call) → place_of config (first_place config end call) ≡ old.first_place config end call
first_same config end Tick = refl
first_same config end Stop = refl
first_same config end (Offer frame) = chosen config (in_run end.handshake.phase) _ (begin NotInRun) _ old.NotInRun refl refl
first_same config end Poll = chosen config (in_run end.handshake.phase) _ (begin NotInRun) _ old.NotInRun refl refl

pub bridging : PlacesAreTheSame
bridging = record { first = first_same; step = place_step; next = place_next }
