-- Each foreign field is read once.
use Rattle.std.proofs.Common.{◌≡◌, ◌≢◌, ℕ, zero, suc, ◌+◌, ◌*◌, ◌/◌, ◌%◌, ◌<◌, ◌≤◌, inl, inr, List, [], ◌∷◌, ◌++◌, length, refl, sym, ap, ◌∙◌, subst, arith}
use mathlib.Core.Logic.{dite}
use native.Mathlib.Decide.{dec_lt}
use Rattle.std.proofs.Math.Nat.{mul-le-mul_left}
use Rattle.std.proofs.lemmas.Nat.{mod_below}
use Rattle.split_ring.specs.declared.ranges.FieldName.TheVariants as field_name
use Rattle.split_ring.specs.Layout.{has_events, size_of, limit_of, data_area_start, word_offset, UsedId, UsedIndex, AvailEvent}
use Rattle.split_ring.specs.Spelling.{low_half}
use Rattle.std.specs.Prelude.{Bool, true, false, if◌then◌else◌}
use Rattle.split_ring.proofs.QueueHasBounds.{bounds}
use Rattle.call_grammar.specs.Steps.{Mark, Deliver, Over, Step}
use Rattle.call_grammar.specs.Words.{words_for, frame_in}
use Rattle.call_grammar.specs.Ticks.{EndConfig}
use Rattle.call_grammar.specs.Offers.{PendingOffer, avail_entry_of, refusal, refused_steps, full_marks, returned_by, reclaim_marks, used_index_step, used_id_step, used_id_steps, frame_write_steps, publish_steps, wants_doorbell, doorbell_step, avail_event_read_step, notify_steps, IsOffer}
use Rattle.call_grammar.specs.Polls.{Item, item_entry, item_address, word_steps, return_steps, IsValidItem, item_steps, IsRefusedItem}
use Rattle.call_grammar.proofs.OfferLists.{append_nil}
use Rattle.call_grammar.specs.Permitted.{HasSections}
use Rattle.call_grammar.specs.ReadsOnce.{reads_of, IsNone, AreDistinct, FieldsAreReadOnce}
use Rattle.call_grammar.proofs.IndexesAreReadOnce.{indexes_are_read_once}

-- The words of an item

-- The words of a descriptor, of an entry and of the data area differ, in a queue of n whose data
-- area begins at p.
descriptor_low : (n k e : ℕ) → e < n → (16 * e + 12) / 4 < (16 * n + 4 + 2 * k) / 4
descriptor_low n k e lt = omega arith

entry_low : (n k p a : ℕ) → k < n → p ≡ ((18 * n + 6 + 63) / 64 * 64 + 6 + 8 * n + 63) / 64 * 64 → p ≤ a → (16 * n + 4 + 2 * k) / 4 < a / 4
entry_low n k p a lt is le = omega arith

words_none : (config : EndConfig) (address at word number entry : ℕ) (words : List ℕ) (marks : List Mark) → word < config.other_start + (address / 4 + at) → IsNone word (reads_of (word_steps config address at words marks ++ return_steps config number entry))
words_none config address at word number entry [] marks low = tt
words_none config address at word number entry (w ∷ words) marks low = ((λ e. omega arith), words_none config address (at + 1) word number entry words marks (omega arith))

words_distinct : (config : EndConfig) (address at number entry : ℕ) (words : List ℕ) (marks : List Mark) → AreDistinct (reads_of (word_steps config address at words marks ++ return_steps config number entry))
words_distinct config address at number entry [] marks = tt
words_distinct config address at number entry (w ∷ words) marks = (words_none config address (at + 1) (config.other_start + (address / 4 + at)) number entry words marks (omega arith), words_distinct config address (at + 1) number entry words marks)

entry_in : (config : EndConfig) → HasSections config → (number : ℕ) → avail_entry_of config number < size_of config.sizes
entry_in config has number = let least = (bounds config.sizes has.queue).size_least in mod_below number (size_of config.sizes) (omega arith)

valid_item_reads_once : (config : EndConfig) (number : ℕ) (read : Item) → HasSections config → IsValidItem config number read → AreDistinct (reads_of (item_steps config number read))
valid_item_reads_once config number read has good =
    let n = size_of config.sizes in let k = avail_entry_of config number in let e = item_entry config number read in let a = item_address read in let marks = Deliver (frame_in read.bytes read.words) ∷ [] in
    let low = descriptor_low n k e good.entry in let high = entry_low n k (data_area_start config.sizes) a (entry_in config has number) refl good.address.1 in
    let above : (w : ℕ) → w < config.other_start + (a / 4 + 0) → IsNone w (reads_of (word_steps config a 0 read.words marks ++ return_steps config number e)) = λ w lt. words_none config a 0 w number e read.words marks lt in (
      ((λ x. omega arith), ((λ x. omega arith), ((λ x. omega arith), ((λ x. omega arith), above _ (omega arith))))),
      (
        ((λ x. omega arith), ((λ x. omega arith), ((λ x. omega arith), above _ (omega arith)))),
        (
          ((λ x. omega arith), ((λ x. omega arith), above _ (omega arith))),
          (
            ((λ x. omega arith), above _ (omega arith)),
            (above _ (omega arith), words_distinct config a 0 number e read.words marks),
          ),
        ),
      ),
    )

refused_item_reads_once : (config : EndConfig) (number : ℕ) (read : Item) (steps : List Step) → HasSections config → IsRefusedItem config number read steps → AreDistinct (reads_of steps)
refused_item_reads_once config number read steps has (inl is) = subst (λ (l : List Step). AreDistinct (reads_of l)) (sym is.1) (tt, tt)
refused_item_reads_once config number read steps has (inr (inl is)) = let low = descriptor_low (size_of config.sizes) (avail_entry_of config number) (item_entry config number read) is.0 in subst (λ (l : List Step). AreDistinct (reads_of l)) (sym is.2)
    (((λ x. omega arith), ((λ x. omega arith), tt)), (((λ x. omega arith), tt), (tt, tt)))
refused_item_reads_once config number read steps has (inr (inr (inl is))) = let low = descriptor_low (size_of config.sizes) (avail_entry_of config number) (item_entry config number read) is.0 in subst (λ (l : List Step). AreDistinct (reads_of l)) (sym is.3)
    (((λ x. omega arith), ((λ x. omega arith), ((λ x. omega arith), tt))), (((λ x. omega arith), ((λ x. omega arith), tt)), (((λ x. omega arith), tt), (tt, tt))))
refused_item_reads_once config number read steps has (inr (inr (inr is))) = let low = descriptor_low (size_of config.sizes) (avail_entry_of config number) (item_entry config number read) is.0 in subst (λ (l : List Step). AreDistinct (reads_of l)) (sym is.4)
    (((λ x. omega arith), ((λ x. omega arith), ((λ x. omega arith), ((λ x. omega arith), tt)))), (((λ x. omega arith), ((λ x. omega arith), ((λ x. omega arith), tt))), (((λ x. omega arith), ((λ x. omega arith), tt)), (((λ x. omega arith), tt), (tt, tt)))))

-- The ids of an offer

ring_apart : (c k a : ℕ) → 0 < c → k < a → a < k + c → a % c ≢ k % c
ring_apart c k a some lt far e = dite (dec_lt (k / c) (a / c))
    (λ up. let h : c * (k / c + 1) ≤ c * (a / c) = mul-le-mul_left c (omega arith) in omega arith)
    (λ down. let h : c * (a / c) ≤ c * (k / c) = mul-le-mul_left c (omega arith) in omega arith)

abbrev id_word : EndConfig → ℕ → ℕ
id_word config number = config.other_start + word_offset config.sizes (UsedId (avail_entry_of config number))

ids_none : (config : EndConfig) (word freed count : ℕ) (marks : List Mark) (tail : List Step) → ((k : ℕ) → freed ≤ k → k < freed + count → word ≢ id_word config k) → IsNone word (reads_of tail) → IsNone word (reads_of (used_id_steps config freed count marks ++ tail))
ids_none config word freed zero marks tail apart none = none
ids_none config word freed (suc more) marks tail apart none = (apart freed (omega arith) (omega arith), ids_none config word (freed + 1) more marks tail (λ k low high. apart k (omega arith) (omega arith)) none)

-- Two ids less than a queue size apart are in different words.
ids_apart : (config : EndConfig) → HasSections config → (k a : ℕ) → k < a → a < k + size_of config.sizes → id_word config k ≢ id_word config a
ids_apart config has k a lt far same = let least = (bounds config.sizes has.queue).size_least in ring_apart (size_of config.sizes) k a (omega arith) lt far (omega arith)

ids_distinct : (config : EndConfig) → HasSections config → (freed count total : ℕ) (marks : List Mark) (tail : List Step) → freed + count ≡ total → count ≤ size_of config.sizes →
    ((k : ℕ) → freed ≤ k → k < total → IsNone (id_word config k) (reads_of tail)) → AreDistinct (reads_of tail) → AreDistinct (reads_of (used_id_steps config freed count marks ++ tail))
ids_distinct config has freed zero total marks tail is few none others = others
ids_distinct config has freed (suc more) total marks tail is few none others = (
  ids_none config (id_word config freed) (freed + 1) more marks tail (λ k low high. ids_apart config has freed k (omega arith) (omega arith)) (none freed (omega arith) (omega arith)),
  ids_distinct config has (freed + 1) more total marks tail (omega arith) (omega arith) (λ k low high. none k (omega arith) high) others,
)

-- Writes and the doorbell read nothing, and a notification reads at most the other's avail_event.
abbrev event_word : EndConfig → ℕ
event_word config = config.other_start + word_offset config.sizes AvailEvent

fill_reads : (config : EndConfig) (pending : PendingOffer) (at count : ℕ) (tail : List Step) → reads_of (frame_write_steps config pending at count ++ (publish_steps config pending ++ tail)) ≡ reads_of tail
fill_reads config pending at zero tail = refl
fill_reads config pending at (suc more) tail = fill_reads config pending (at + 1) more tail

abbrev steps_of_notify : EndConfig → (number value : ℕ) → (b asks : Bool) → List Step
steps_of_notify config number value b asks = if b then avail_event_read_step config number value ∷ (if asks then doorbell_step config (Over ∷ []) ∷ [] else []) else doorbell_step config (Over ∷ []) ∷ []

notify_reads_none : (config : EndConfig) (number value word : ℕ) (b asks : Bool) → word ≢ event_word config → IsNone word (reads_of (steps_of_notify config number value b asks))
notify_reads_none config number value word true true other = (other, tt)
notify_reads_none config number value word true false other = (other, tt)
notify_reads_none config number value word false asks other = tt

notify_is_distinct : (config : EndConfig) (number value : ℕ) (b asks : Bool) → AreDistinct (reads_of (steps_of_notify config number value b asks))
notify_is_distinct config number value true true = (tt, tt)
notify_is_distinct config number value true false = (tt, tt)
notify_is_distinct config number value false asks = tt

used_low : (config : EndConfig) (k : ℕ) → config.other_start + word_offset config.sizes UsedIndex ≢ id_word config k
used_low config k same = omega arith

-- avail_event is after the index and the ids.
event_high : (config : EndConfig) → HasSections config → (k : ℕ) → id_word config k ≢ event_word config
event_high config has k same =
    let least = (bounds config.sizes has.queue).size_least in let low = mod_below k (size_of config.sizes) (omega arith) in omega arith

event_apart : (config : EndConfig) → HasSections config → config.other_start + word_offset config.sizes UsedIndex ≢ event_word config
event_apart config has same = let least = (bounds config.sizes has.queue).size_least in omega arith

reads_distinct : (config : EndConfig) → HasSections config → (pending : PendingOffer) (freed value count : ℕ) (marks id_marks : List Mark) (tail : List Step) → count ≤ limit_of config.sizes →
    ((w : ℕ) → w ≢ event_word config → IsNone w (reads_of tail)) → AreDistinct (reads_of tail) →
    AreDistinct (reads_of (used_index_step config value marks ∷ (used_id_steps config freed count id_marks ++ tail)))
reads_distinct config has pending freed value count marks id_marks tail few none others = let most = (bounds config.sizes has.queue).limit_most in (
  ids_none config _ freed count id_marks tail (λ k low high. used_low config k) (none _ (event_apart config has)),
  ids_distinct config has freed count (freed + count) id_marks tail refl (omega arith) (λ k low high. none _ (event_high config has k)) others,
)

offer_reads_once : (config : EndConfig) (pending : PendingOffer) (freed : ℕ) (steps : List Step) → HasSections config → pending.number ≤ freed + limit_of config.sizes → IsOffer config pending freed steps → AreDistinct (reads_of steps)
offer_reads_once config pending freed steps has room (inl r) = subst (λ (l : List Step). AreDistinct (reads_of l)) (sym r.steps_are) (tt, tt)
offer_reads_once config pending freed steps has room (inr (inl r)) = let within = r.within in let before = r.before in let most = (bounds config.sizes has.queue).limit_most in
    let tail = refused_steps (used_id_step config (freed + r.passed) r.id (refusal field_name.UsedId r.id)) in subst (λ (l : List Step). AreDistinct (reads_of l)) (sym r.steps_are) (
      ids_none config _ freed r.passed [] tail (λ k low high. used_low config k) (used_low config (freed + r.passed), tt),
      ids_distinct config has freed r.passed (freed + r.passed) [] tail refl (omega arith) (λ k low high. (ids_apart config has k (freed + r.passed) high (omega arith), tt)) (tt, tt),
    )
offer_reads_once config pending freed steps has room (inr (inr (inl r))) = let within = r.within in
    subst (λ (l : List Step). AreDistinct (reads_of l)) (ap (λ (l : List Step). used_index_step config r.value (reclaim_marks config pending freed (returned_by freed r.value)) ∷ l) (append_nil (used_id_steps config freed (returned_by freed r.value) (full_marks config pending (freed + returned_by freed r.value)))) ∙ sym r.steps_are)
    (reads_distinct config has pending freed r.value (returned_by freed r.value) (reclaim_marks config pending freed (returned_by freed r.value)) (full_marks config pending (freed + returned_by freed r.value)) [] (omega arith) (λ w other. tt) tt)
offer_reads_once config pending freed steps has room (inr (inr (inr r))) = let within = r.within in let b = has_events config.sizes in let asks = wants_doorbell (low_half r.event) pending.number in
    let tail = notify_steps config pending.number r.event in let quiet = fill_reads config pending 0 (words_for (length pending.frame)) tail in
    subst (λ (l : List Step). AreDistinct (reads_of l)) (sym r.steps_are)
    (reads_distinct config has pending freed r.value (returned_by freed r.value) (reclaim_marks config pending freed (returned_by freed r.value)) (full_marks config pending (freed + returned_by freed r.value))
    (frame_write_steps config pending 0 (words_for (length pending.frame)) ++ (publish_steps config pending ++ tail)) (omega arith)
    (λ w other. subst (IsNone w) (sym quiet) (notify_reads_none config pending.number r.event w b asks other)) (subst AreDistinct (sym quiet) (notify_is_distinct config pending.number r.event b asks)))

pub distinct : FieldsAreReadOnce
distinct = record { taken = valid_item_reads_once; refused = refused_item_reads_once; offered = offer_reads_once; indexes = indexes_are_read_once }
