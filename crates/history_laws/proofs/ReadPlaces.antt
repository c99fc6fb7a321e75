-- The values that a call has read at its place, and after each step.
use Rattle.std.proofs.Common.{◌≡◌, ℕ, zero, suc, ◌+◌, ◌-◌, ◌/◌, ◌<◌, ◌≤◌, Bool, true, false, List, [], ◌∷◌, ◌++◌, length, refl, sym, ◌∙◌, ap, subst, arith, ne_eqb}
use Rattle.std.specs.Prelude.{◌==◌, if◌then◌else◌, ◌%◌}
use Rattle.std.proofs.lemmas.Bool.Decides.{nat_tests}
use Rattle.split_ring.specs.declared.sizes.TheConstants.{SHORTEST_FRAME}
use Rattle.split_ring.specs.declared.ranges.FieldName.TheVariants as field_name
use Rattle.split_ring.specs.declared.steps.Access.{Access}
use Rattle.split_ring.specs.declared.steps.Access.TheVariants as access
use Rattle.split_ring.specs.Layout.{has_events, word_offset, DescAddress, DescLength, DescFlags, UsedIndex}
use Rattle.split_ring.specs.Spelling.{low_half, high_half, entry_half, desc_flags}
use Rattle.split_ring.specs.Ranges.{IsAvailEntry, IsDescAddress, IsDescLength, IsDescFlags, is_avail_entry, is_desc_address, is_desc_length, is_desc_flags, is_used_id, is_avail_index, is_used_index}
use Rattle.split_ring.proofs.TestsDecideRanges.{entry_of_test, address_of_test, length_of_test}
use Rattle.link_handshake.specs.declared.Move.{Move}
use Rattle.link_handshake.specs.declared.Move.TheVariants.{Stay, Set, ClearThenSet}
use Rattle.link_handshake.specs.HandshakeState.{move_of}
use Rattle.call_grammar.specs.Steps.{Mark, Reclaim, Full, Look, Done, Deliver, Over}
use Rattle.call_grammar.specs.Ticks.{tick_marks}
use Rattle.call_grammar.specs.Ends.{End}
use Rattle.call_grammar.specs.Words.{words_for, address_of, frame_in}
use Rattle.call_grammar.specs.Calls.{EndConfig, Call, Tick, Stop, Offer, Poll, in_run, pending_of}
use Rattle.call_grammar.specs.Offers.{PendingOffer, frame_fits, descriptor_of, avail_entry_of, refusal, full_marks, returned_by, reclaim_marks, wants_doorbell}
use Rattle.call_grammar.specs.Polls.{Item, item_entry, item_address, is_last, published_by, look_marks}
use Rattle.call_grammar.specs.Places.{Place, Closed, ReadingOtherState, Clearing, WritingState, Refusing, NotInRun, ReadingUsedIndex, ReadingUsedId, WritingFrameWord, WritingDescAddressLow, WritingDescAddressHigh, WritingDescLength, WritingDescFlags, WritingAvailEntry, WritingAvailIndex, ReadingAvailEvent, RingingOffer, ReadingAvailIndex, WritingAvailEvent, ReadingAvailEntry, ReadingDescAddressLow, ReadingDescAddressHigh, ReadingDescLength, ReadingDescFlags, ReadingFrameWord, WritingUsedId, WritingUsedLength, WritingUsedIndex, RingingPoll, clear_place, tick_place, fill_place, ids_place, none_place, items_place, words_place, first_place, access_at, marks_at, next_place}
use Rattle.call_grammar.proofs.OfferLists.{no}
use Rattle.history_laws.specs.Reads.{Got, got, entry_read, low_read, high_read, length_read, flags_read, word_reads}

flags_of_test : (f : ℕ) → (f == 0) ≡ true → IsDescFlags f
flags_of_test f test = grind (arith, nat_tests)

-- The values that the call has read since its last mark. For an item they are its values, which
-- passed their tests. An offer has read ids, or reads the other's avail_event next.
abbrev pub ReadsAre : EndConfig → Place → List Got → Type 0
ReadsAre config (ReadingUsedId pending freed more) reads = Unit {0}
ReadsAre config (WritingFrameWord pending at more) reads = Unit {0}
ReadsAre config (WritingDescAddressLow pending) reads = Unit {0}
ReadsAre config (WritingDescAddressHigh pending) reads = Unit {0}
ReadsAre config (WritingDescLength pending) reads = Unit {0}
ReadsAre config (WritingDescFlags pending) reads = Unit {0}
ReadsAre config (WritingAvailEntry pending) reads = Unit {0}
ReadsAre config (WritingAvailIndex pending) reads = Unit {0}
ReadsAre config RingingOffer reads = Unit {0}
ReadsAre config (ReadingDescAddressLow number more entry) reads = (read : Item) × (reads ≡ entry_read config number read ∷ []) × (entry ≡ item_entry config number read) × IsAvailEntry config.sizes (item_entry config number read)
ReadsAre config (ReadingDescAddressHigh number more entry low) reads = (read : Item) × (reads ≡ entry_read config number read ∷ low_read config number read ∷ []) × (entry ≡ item_entry config number read) × IsAvailEntry config.sizes (item_entry config number read) × (low ≡ read.low)
ReadsAre config (ReadingDescLength number more entry address) reads =
    (read : Item) × (reads ≡ entry_read config number read ∷ low_read config number read ∷ high_read config number read ∷ []) × (entry ≡ item_entry config number read) × IsAvailEntry config.sizes (item_entry config number read) ×
    (address ≡ item_address read) × IsDescAddress config.sizes (item_address read)
ReadsAre config (ReadingDescFlags number more entry address bytes) reads =
    (read : Item) × (reads ≡ entry_read config number read ∷ low_read config number read ∷ high_read config number read ∷ length_read config number read ∷ []) × (entry ≡ item_entry config number read) × IsAvailEntry config.sizes (item_entry config number read) ×
    (address ≡ item_address read) × IsDescAddress config.sizes (item_address read) × (bytes ≡ read.bytes) × IsDescLength config.sizes (item_address read) read.bytes
ReadsAre config (ReadingFrameWord number more entry address bytes words left) reads =
    (read : Item) × (reads ≡ entry_read config number read ∷ low_read config number read ∷ high_read config number read ∷ length_read config number read ∷ flags_read config number read ∷ word_reads config (item_address read) 0 words) ×
    (entry ≡ item_entry config number read) × IsAvailEntry config.sizes (item_entry config number read) ×
    (address ≡ item_address read) × IsDescAddress config.sizes (item_address read) × (bytes ≡ read.bytes) × IsDescLength config.sizes (item_address read) read.bytes × IsDescFlags (desc_flags read.flags_word)
ReadsAre config place reads = reads ≡ []

-- The reads after a step: its marks empty the list.
abbrev pub reads_taken : Access → ℕ → List Got → List Got
reads_taken (access.Read word) value reads = reads ++ got word value ∷ []
reads_taken _ value reads = reads

abbrev pub reads_marked : List Mark → List Got → List Got
reads_marked [] reads = reads
reads_marked (mark ∷ marks) reads = []

-- Places without a read of an item

either : (P : Place → Type 0) (b : Bool) (x y : Place) → P x → P y → P (if b then x else y)
either P true x y px py = px
either P false x y px py = py

fill_reads : (config : EndConfig) (reads : List Got) (pending : PendingOffer) (at count : ℕ) → ReadsAre config (fill_place pending at count) reads
fill_reads config reads pending at zero = tt
fill_reads config reads pending at (suc more) = tt

ids_reads : (config : EndConfig) (pending : PendingOffer) (freed count : ℕ) → ReadsAre config (ids_place config pending freed count) []
ids_reads config pending freed zero = either (λ x. ReadsAre config x []) (frame_fits config pending freed) (fill_place pending 0 (words_for (length pending.frame))) Closed (fill_reads config [] pending 0 (words_for (length pending.frame))) refl
ids_reads config pending freed (suc more) = tt

clear_reads : (config : EndConfig) (at count state : ℕ) → ReadsAre config (clear_place at count state) []
clear_reads config at zero state = refl
clear_reads config at (suc more) state = refl

tick_reads : (config : EndConfig) (value : ℕ) (taken : List Got) (move : Move) → ReadsAre config (tick_place config move) (reads_marked (tick_marks value move) taken)
tick_reads config value taken Stay = refl
tick_reads config value taken (Set state) = refl
tick_reads config value taken (ClearThenSet state) = clear_reads config config.own config.words state

items_reads : (config : EndConfig) (number count : ℕ) → ReadsAre config (items_place number count) []
items_reads config number zero = refl
items_reads config number (suc more) = refl

pub first_reads : (config : EndConfig) (reads : List Got) (end : End) (call : Call) → reads ≡ [] → ReadsAre config (first_place config end call) reads
first_reads config reads end Tick none = none
first_reads config reads end Stop none = none
first_reads config reads end (Offer frame) none = either (λ x. ReadsAre config x reads) (in_run end.handshake.phase) (ReadingUsedIndex (pending_of config end frame) end.freed) NotInRun none none
first_reads config reads end Poll none = either (λ x. ReadsAre config x reads) (in_run end.handshake.phase) (ReadingAvailIndex (length end.delivered) (is_last config end.found_none)) NotInRun none none

-- A test that decides both the next place and the marks

by_test : (config : EndConfig) (taken : List Got) (b : Bool) (x y : Place) (marks others : List Mark) → (b ≡ true → ReadsAre config x (reads_marked marks taken)) → (b ≡ false → ReadsAre config y (reads_marked others taken)) →
    ReadsAre config (if b then x else y) (reads_marked (if b then marks else others) taken)
by_test config taken true x y marks others px py = px refl
by_test config taken false x y marks others px py = py refl

-- One more word of a frame.
word_last : (config : EndConfig) (address at value : ℕ) (words : List ℕ) → word_reads config address at (words ++ value ∷ []) ≡ word_reads config address at words ++ got (config.other_start + (address / 4 + (at + length words))) value ∷ []
word_last config address at value [] = ap (λ (k : ℕ). got (config.other_start + (address / 4 + k)) value ∷ []) (let e : at ≡ at + 0 = omega arith in e)
word_last config address at value (word ∷ words) =
    let rest = word_last config address (at + 1) value words in
    let e : at + 1 + length words ≡ at + suc (length words) = omega arith in
    ap (λ (r : List Got). got (config.other_start + (address / 4 + at)) word ∷ r) (rest ∙ ap (λ (k : ℕ). word_reads config address (at + 1) words ++ got (config.other_start + (address / 4 + k)) value ∷ []) e)

pub next_word : (config : EndConfig) (address value : ℕ) (words : List ℕ) → word_reads config address 0 words ++ got (config.other_start + (address / 4 + length words)) value ∷ [] ≡ word_reads config address 0 (words ++ value ∷ [])
next_word config address value words =
    let e : length words ≡ 0 + length words = omega arith in
    ap (λ (k : ℕ). word_reads config address 0 words ++ got (config.other_start + (address / 4 + k)) value ∷ []) e ∙ sym (word_last config address 0 value words)

-- The reads after each read of an item, as reads of an item with that value

abbrev pub with_entry_word : ℕ → Item
with_entry_word value = record { entry_word = value; low = 0; high = 0; bytes = 0; flags_word = 0; words = [] }

module _ (config : EndConfig) (number : ℕ) (value : ℕ) (reads : List Got) (read : Item) where
  pub low_taken : (entry : ℕ) → reads ≡ entry_read config number read ∷ [] → entry ≡ item_entry config number read →
      reads ++ got (config.other_start + word_offset config.sizes (DescAddress entry)) value ∷ [] ≡ entry_read config number (record read { low = value }) ∷ low_read config number (record read { low = value }) ∷ []
  low_taken entry is e =
      ap (λ (r : List Got). r ++ got (config.other_start + word_offset config.sizes (DescAddress entry)) value ∷ []) is ∙ ap (λ (k : ℕ). entry_read config number read ∷ got (config.other_start + word_offset config.sizes (DescAddress k)) value ∷ []) e

  pub high_taken : (entry : ℕ) → reads ≡ entry_read config number read ∷ low_read config number read ∷ [] → entry ≡ item_entry config number read →
      reads ++ got (config.other_start + word_offset config.sizes (DescAddress entry) + 1) value ∷ [] ≡ entry_read config number (record read { high = value }) ∷ low_read config number (record read { high = value }) ∷ high_read config number (record read { high = value }) ∷ []
  high_taken entry is e =
      ap (λ (r : List Got). r ++ got (config.other_start + word_offset config.sizes (DescAddress entry) + 1) value ∷ []) is ∙
      ap (λ (k : ℕ). entry_read config number read ∷ low_read config number read ∷ got (config.other_start + word_offset config.sizes (DescAddress k) + 1) value ∷ []) e

  pub length_taken : (entry : ℕ) → reads ≡ entry_read config number read ∷ low_read config number read ∷ high_read config number read ∷ [] → entry ≡ item_entry config number read →
      reads ++ got (config.other_start + word_offset config.sizes (DescLength entry)) value ∷ [] ≡
      entry_read config number (record read { bytes = value }) ∷ low_read config number (record read { bytes = value }) ∷ high_read config number (record read { bytes = value }) ∷ length_read config number (record read { bytes = value }) ∷ []
  length_taken entry is e =
      ap (λ (r : List Got). r ++ got (config.other_start + word_offset config.sizes (DescLength entry)) value ∷ []) is ∙
      ap (λ (k : ℕ). entry_read config number read ∷ low_read config number read ∷ high_read config number read ∷ got (config.other_start + word_offset config.sizes (DescLength k)) value ∷ []) e

  pub flags_taken : (entry : ℕ) → reads ≡ entry_read config number read ∷ low_read config number read ∷ high_read config number read ∷ length_read config number read ∷ [] → entry ≡ item_entry config number read →
      reads ++ got (config.other_start + word_offset config.sizes (DescFlags entry)) value ∷ [] ≡
      entry_read config number (record read { flags_word = value }) ∷ low_read config number (record read { flags_word = value }) ∷ high_read config number (record read { flags_word = value }) ∷
      length_read config number (record read { flags_word = value }) ∷ flags_read config number (record read { flags_word = value }) ∷ []
  flags_taken entry is e =
      ap (λ (r : List Got). r ++ got (config.other_start + word_offset config.sizes (DescFlags entry)) value ∷ []) is ∙
      ap (λ (k : ℕ). entry_read config number read ∷ low_read config number read ∷ high_read config number read ∷ length_read config number read ∷ got (config.other_start + word_offset config.sizes (DescFlags k)) value ∷ []) e

  pub word_taken : (address : ℕ) (words : List ℕ) →
      reads ≡ entry_read config number read ∷ low_read config number read ∷ high_read config number read ∷ length_read config number read ∷ flags_read config number read ∷ word_reads config (item_address read) 0 words → address ≡ item_address read →
      reads ++ got (config.other_start + (address / 4 + length words)) value ∷ [] ≡
      entry_read config number read ∷ low_read config number read ∷ high_read config number read ∷ length_read config number read ∷ flags_read config number read ∷ word_reads config (item_address read) 0 (words ++ value ∷ [])
  word_taken address words is e =
      ap (λ (r : List Got). r ++ got (config.other_start + (address / 4 + length words)) value ∷ []) is ∙
      ap (λ (r : List Got). entry_read config number read ∷ low_read config number read ∷ high_read config number read ∷ length_read config number read ∷ flags_read config number read ∷ r)
      (ap (λ (a : ℕ). word_reads config (item_address read) 0 words ++ got (config.other_start + (a / 4 + length words)) value ∷ []) e ∙ next_word config (item_address read) value words)

words_reads : (config : EndConfig) (number more entry address bytes : ℕ) (words : List ℕ) (count : ℕ) (reads : List Got) → 0 < count →
    ((left : ℕ) → ReadsAre config (ReadingFrameWord number more entry address bytes words left) reads) → ReadsAre config (words_place number more entry address bytes words count) reads
words_reads config number more entry address bytes words zero reads some is = absurd (omega arith)
words_reads config number more entry address bytes words (suc left) reads some is = is left

-- The marks of an id that passed its test: Full if the frame doesn't fit, or none.
ids_marked : (config : EndConfig) (pending : PendingOffer) (freed more : ℕ) (taken : List Got) → ReadsAre config (ids_place config pending freed more) (reads_marked (if more == 0 then full_marks config pending freed else []) taken)
ids_marked config pending freed zero taken = by_bool (frame_fits config pending freed)
  where
    by_bool : (b : Bool) → ReadsAre config (if b then fill_place pending 0 (words_for (length pending.frame)) else Closed) (reads_marked (if b then [] else Full ∷ []) taken)
    by_bool true = fill_reads config taken pending 0 (words_for (length pending.frame))
    by_bool false = refl
ids_marked config pending freed (suc more) taken = tt

some_words : (bytes : ℕ) → SHORTEST_FRAME ≤ bytes → 0 < words_for bytes
some_words bytes some = omega arith

-- Each step

pub reads_on : (config : EndConfig) (place : Place) (value : ℕ) (reads : List Got) → ReadsAre config place reads → ReadsAre config (next_place config place value) (reads_marked (marks_at config place value) (reads_taken (access_at config place) value reads))
reads_on config Closed value reads is = is
reads_on config (ReadingOtherState handshake) value reads is = tick_reads config value _ (move_of handshake value)
reads_on config (Clearing at more state) value reads is = subst (ReadsAre config (clear_place (at + 1) more state)) (sym is) (clear_reads config (at + 1) more state)
reads_on config (WritingState state) value reads is = refl
reads_on config Refusing value reads is = refl
reads_on config NotInRun value reads is = refl
reads_on config (ReadingUsedIndex pending freed) value reads is =
    let count = returned_by freed value in
    by_test config _ (is_used_index (freed % 65536) (high_half value) (pending.number - freed)) (ids_place config pending freed count) Refusing (reclaim_marks config pending freed count) (refusal field_name.UsedIndex (high_half value))
    (λ _. subst (λ (r : List Got). ReadsAre config (ids_place config pending freed count) r) (sym (reclaimed (count == 0))) (ids_reads config pending freed count)) (λ _. refl)
  where
    reclaimed : (b : Bool) → reads_marked (if b then Reclaim 0 ∷ full_marks config pending freed else Reclaim (returned_by freed value) ∷ []) (reads ++ got (config.other_start + word_offset config.sizes UsedIndex) value ∷ []) ≡ []
    reclaimed true = refl
    reclaimed false = refl
reads_on config (ReadingUsedId pending freed more) value reads is =
    by_test config _ (is_used_id (descriptor_of config freed) value) (ids_place config pending (freed + 1) more) Refusing (if more == 0 then full_marks config pending (freed + 1) else []) (refusal field_name.UsedId value)
    (λ _. ids_marked config pending (freed + 1) more _) (λ _. refl)
reads_on config (WritingFrameWord pending at more) value reads is = fill_reads config _ pending (at + 1) more
reads_on config (WritingDescAddressLow pending) value reads is = tt
reads_on config (WritingDescAddressHigh pending) value reads is = tt
reads_on config (WritingDescLength pending) value reads is = tt
reads_on config (WritingDescFlags pending) value reads is = tt
reads_on config (WritingAvailEntry pending) value reads is = tt
reads_on config (WritingAvailIndex pending) value reads is = either (λ x. ReadsAre config x []) (has_events config.sizes) (ReadingAvailEvent pending.number) RingingOffer refl tt
reads_on config (ReadingAvailEvent number) value reads is = by_test config _ (wants_doorbell (low_half value) number) RingingOffer Closed [] (Over ∷ []) (λ _. tt) (λ _. refl)
reads_on config RingingOffer value reads is = refl
reads_on config (ReadingAvailIndex taken last) value reads is =
    let count = published_by taken value in
    by_test config _ (is_avail_index config.sizes (taken % 65536) (high_half value)) (if count == 0 then none_place taken last else items_place taken count) Refusing (look_marks last count)
    (refusal field_name.AvailIndex (high_half value))
    (λ _. by_test config _ (count == 0) (none_place taken last) (items_place taken count) (if last then Look 0 ∷ Done ∷ [] else Look 0 ∷ []) (Look count ∷ [])
    (λ _. by_test config _ last Closed (WritingAvailEvent taken) (Look 0 ∷ Done ∷ []) (Look 0 ∷ []) (λ _. refl) (λ _. refl)) (λ _. items_reads config taken count)) (λ _. refl)
reads_on config (WritingAvailEvent taken) value reads is = is
reads_on config (ReadingAvailEntry number more) value reads is =
    let entry = entry_half (avail_entry_of config number) value in
    by_test config _ (is_avail_entry config.sizes entry) (ReadingDescAddressLow number more entry) Refusing [] (refusal field_name.AvailEntry entry)
    (λ test. (with_entry_word value, ap (λ (r : List Got). r ++ entry_read config number (with_entry_word value) ∷ []) is, refl, entry_of_test config.sizes entry test)) (λ _. refl)
reads_on config (ReadingDescAddressLow number more entry) value reads is = (record (is.0) { low = value }, low_taken config number value reads is.0 entry is.1 is.2, is.2, is.3, refl)
reads_on config (ReadingDescAddressHigh number more entry low) value reads is =
    let read = record (is.0) { high = value } in
    let address : address_of low value ≡ item_address read = ap (λ (l : ℕ). address_of l value) is.4 in
    by_test config _ (is_desc_address config.sizes (address_of low value)) (ReadingDescLength number more entry (address_of low value)) Refusing [] (refusal field_name.DescAddress (address_of low value))
    (λ test. (read, high_taken config number value reads is.0 entry is.1 is.2, is.2, is.3, address, subst (IsDescAddress config.sizes) address (address_of_test config.sizes (address_of low value) test))) (λ _. refl)
reads_on config (ReadingDescLength number more entry address) value reads is =
    let read = record (is.0) { bytes = value } in
    by_test config _ (is_desc_length config.sizes address value) (ReadingDescFlags number more entry address value) Refusing [] (refusal field_name.DescLength value)
    (λ test. (read, length_taken config number value reads is.0 entry is.1 is.2, is.2, is.3, is.4, is.5, refl, subst (λ (a : ℕ). IsDescLength config.sizes a value) is.4 (length_of_test config.sizes address value test))) (λ _. refl)
reads_on config (ReadingDescFlags number more entry address bytes) value reads is =
    let read = record (is.0) { flags_word = value } in
    by_test config _ (is_desc_flags (desc_flags value)) (words_place number more entry address bytes [] (words_for bytes)) Refusing [] (refusal field_name.DescFlags (desc_flags value))
    (λ test. words_reads config number more entry address bytes [] (words_for bytes) _ (some_words bytes (subst (λ k. SHORTEST_FRAME ≤ k) (sym is.6) is.7.0)) (λ left. (read, flags_taken config number value reads is.0 entry is.1 is.2, is.2, is.3, is.4, is.5, is.6, is.7, flags_of_test (desc_flags value) test))) (λ _. refl)
reads_on config (ReadingFrameWord number more entry address bytes words zero) value reads is = refl
reads_on config (ReadingFrameWord number more entry address bytes words (suc left)) value reads is =
    let none : (suc left == 0) ≡ false = ne_eqb (suc left) 0 (λ e. absurd (omega arith)) in
    let marks : (if suc left == 0 then Deliver (frame_in bytes (words ++ value ∷ [])) ∷ [] else []) ≡ [] = no (suc left == 0) (Deliver (frame_in bytes (words ++ value ∷ [])) ∷ []) [] none in
    subst (λ (m : List Mark). ReadsAre config (ReadingFrameWord number more entry address bytes (words ++ value ∷ []) left) (reads_marked m (reads ++ got (config.other_start + (address / 4 + length words)) value ∷ []))) (sym marks)
    (is.0, word_taken config number value reads is.0 address words is.1 is.4, is.2, is.3, is.4, is.5, is.6, is.7, is.8)
reads_on config (WritingUsedId number more entry) value reads is = is
reads_on config (WritingUsedLength number more) value reads is = is
reads_on config (WritingUsedIndex number more) value reads is = items_reads config (number + 1) more
reads_on config RingingPoll value reads is = refl
