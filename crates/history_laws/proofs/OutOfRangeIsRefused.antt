-- A step that reads a value out of range refuses it.
use Rattle.std.proofs.Common.{◌≡◌, ◌≢◌, ℕ, ◌+◌, ◌-◌, ◌/◌, ◌%◌, ◌<◌, ◌≤◌, Bool, false, List, [], ◌∷◌, ◌++◌, length, refl, sym, ◌∙◌, ap, subst, arith}
use mathlib.Core.Logic.{dite}
use native.Mathlib.Decide.{dec_lt}
use Rattle.std.specs.Prelude.{◌==◌, nat_le, if◌then◌else◌}
use Rattle.std.proofs.lemmas.Bool.Decides.{nat_tests}
use Rattle.std.proofs.lemmas.Nat.{mod_below}
use Rattle.split_ring.specs.declared.ranges.FieldName.{FieldName}
use Rattle.split_ring.specs.declared.ranges.FieldName.TheVariants as field_name
use Rattle.split_ring.specs.declared.steps.Access.TheVariants as access
use Rattle.split_ring.specs.Layout.{size_of, limit_of, data_area_start, word_offset, DescAddress, DescLength, DescFlags, AvailIndex, AvailEntry, UsedIndex, UsedId, AvailEvent}
use Rattle.split_ring.specs.Spelling.{high_half, entry_half, desc_flags}
use Rattle.split_ring.specs.Ranges.{IsAvailIndex, IsAvailEntry, IsDescAddress, IsDescLength, IsDescFlags, IsUsedIndex, IsUsedId, is_avail_entry, is_desc_address, is_desc_length, is_desc_flags, is_used_id, is_avail_index, is_used_index}
use Rattle.split_ring.proofs.TestsDecideRanges.{entry_fails, address_fails, length_fails, flags_fails}
use Rattle.call_grammar.specs.Steps.{Mark}
use Rattle.call_grammar.specs.Ends.{End}
use Rattle.call_grammar.specs.Words.{address_of}
use Rattle.call_grammar.specs.Calls.{EndConfig}
use Rattle.call_grammar.specs.Offers.{PendingOffer, descriptor_of, avail_entry_of, refusal, returned_by, reclaim_marks, full_marks}
use Rattle.call_grammar.specs.Polls.{Item, item_entry, item_address, published_by, look_marks}
use Rattle.call_grammar.specs.Places.{Place, ReadingOtherState, ReadingUsedIndex, ReadingUsedId, ReadingAvailEvent, ReadingAvailIndex, ReadingAvailEntry, ReadingDescAddressLow, ReadingDescAddressHigh, ReadingDescLength, ReadingDescFlags, ReadingFrameWord, access_at, marks_at}
use Rattle.link_machine.specs.LinkMachine.{Side}
use Rattle.call_grammar.proofs.OfferLists.{no}
use Rattle.link_invariant.specs.LinkConfig.{LinkConfig, IsLinkConfig, config_of}
use Rattle.link_invariant.specs.EndInvariant.{EndInvariant}
use Rattle.link_invariant.specs.Sides.{SideIs}
use Rattle.link_invariant.proofs.Fields.{numbers, ring_apart}
use Rattle.history_laws.specs.Reads.{Got, got, entry_read, low_read, high_read, length_read, flags_read, IsReadBeyond}
use Rattle.history_laws.proofs.ReadPlaces.{ReadsAre}
use Rattle.history_laws.proofs.MarkFacts.{accepted_number, delivered_number}

-- The last of some reads

snoc_inj : (xs ys : List Got) (x y : Got) → xs ++ x ∷ [] ≡ ys ++ y ∷ [] → (xs ≡ ys) × (x ≡ y)
snoc_inj [] [] x y e = (refl, cc)
snoc_inj [] (b ∷ []) x y e = absurd (cc)
snoc_inj [] (b ∷ c ∷ ys) x y e = absurd (cc)
snoc_inj (a ∷ []) [] x y e = absurd (cc)
snoc_inj (a ∷ c ∷ xs) [] x y e = absurd (cc)
snoc_inj (a ∷ xs) (b ∷ ys) x y e =
    let tails : xs ++ x ∷ [] ≡ ys ++ y ∷ [] = cc in
    let heads : a ≡ b = cc in
    let rest = snoc_inj xs ys x y tails in
    (ap (λ (l : List Got). a ∷ l) rest.0 ∙ ap (λ (g : Got). g ∷ ys) heads, rest.1)

-- The facts of a read of this word, after these reads, that is out of the range of this field.
Last : EndConfig → Side → List Got → (word value : ℕ) → FieldName → ℕ → Type 0
Last config side reads word value field_name.AvailIndex refused = (word ≡ config.other_start + word_offset config.sizes AvailIndex) × (refused ≡ high_half value) × (¬ IsAvailIndex config.sizes (length side.delivered % 65536) refused)
Last config side reads word value field_name.AvailEntry refused =
    (word ≡ config.other_start + word_offset config.sizes (AvailEntry (avail_entry_of config (length side.delivered)))) × (refused ≡ entry_half (avail_entry_of config (length side.delivered)) value) × (¬ IsAvailEntry config.sizes refused)
Last config side reads word value field_name.DescAddress refused =
    (read : Item) × (reads ≡ entry_read config (length side.delivered) read ∷ low_read config (length side.delivered) read ∷ []) × IsAvailEntry config.sizes (item_entry config (length side.delivered) read) ×
    (word ≡ config.other_start + word_offset config.sizes (DescAddress (item_entry config (length side.delivered) read)) + 1) × (refused ≡ address_of read.low value) × (¬ IsDescAddress config.sizes refused)
Last config side reads word value field_name.DescLength refused =
    (read : Item) × (reads ≡ entry_read config (length side.delivered) read ∷ low_read config (length side.delivered) read ∷ high_read config (length side.delivered) read ∷ []) × IsAvailEntry config.sizes (item_entry config (length side.delivered) read) ×
    (word ≡ config.other_start + word_offset config.sizes (DescLength (item_entry config (length side.delivered) read))) × (refused ≡ value) × (¬ IsDescLength config.sizes (item_address read) refused)
Last config side reads word value field_name.DescFlags refused =
    (read : Item) × IsAvailEntry config.sizes (item_entry config (length side.delivered) read) ×
    (word ≡ config.other_start + word_offset config.sizes (DescFlags (item_entry config (length side.delivered) read))) × (refused ≡ desc_flags value) × (¬ IsDescFlags refused)
Last config side reads word value field_name.UsedIndex refused =
    (word ≡ config.other_start + word_offset config.sizes UsedIndex) × (refused ≡ high_half value) × (¬ IsUsedIndex (side.freed % 65536) refused (length side.accepted - side.freed))
Last config side reads word value field_name.UsedId refused =
    (number : ℕ) × (number < side.freed) × (side.freed ≤ number + limit_of config.sizes) × (word ≡ config.other_start + word_offset config.sizes (UsedId (avail_entry_of config number))) × (refused ≡ value) × (¬ IsUsedId (number % limit_of config.sizes) refused)

word_is : (word value w v : ℕ) → got word value ≡ got w v → word ≡ w
word_is word value w v e = ap (λ (g : Got). g.word) e

value_is : (word value w v : ℕ) → got word value ≡ got w v → v ≡ value
value_is word value w v e = sym (ap (λ (g : Got). g.value) e)

last_of : (config : EndConfig) (side : Side) (reads : List Got) (word value : ℕ) (field : FieldName) (refused : ℕ) → IsReadBeyond config side (reads ++ got word value ∷ []) field refused → Last config side reads word value field refused
unfolding Last
last_of config side reads word value field_name.AvailIndex refused b =
    let e = (snoc_inj reads b.0 (got word value) _ b.2).1 in (word_is word value _ b.1 e, b.3 ∙ ap high_half (value_is word value _ b.1 e), b.4)
last_of config side reads word value field_name.AvailEntry refused b =
    let number = length side.delivered in
    let e = (snoc_inj reads [] (got word value) (entry_read config number b.0) b.1).1 in
    (word_is word value _ _ e, b.2 ∙ ap (entry_half (avail_entry_of config number)) (value_is word value _ b.0.entry_word e), b.3)
last_of config side reads word value field_name.DescAddress refused b =
    let number = length side.delivered in
    let s = snoc_inj reads (entry_read config number b.0 ∷ low_read config number b.0 ∷ []) (got word value) (high_read config number b.0) b.1 in
    (b.0, s.0, b.2, word_is word value _ _ s.1, b.3 ∙ ap (address_of b.0.low) (value_is word value _ b.0.high s.1), b.4)
last_of config side reads word value field_name.DescLength refused b =
    let number = length side.delivered in
    let s = snoc_inj reads (entry_read config number b.0 ∷ low_read config number b.0 ∷ high_read config number b.0 ∷ []) (got word value) (length_read config number b.0) b.1 in
    (b.0, s.0, b.2, word_is word value _ _ s.1, b.4 ∙ value_is word value _ b.0.bytes s.1, b.5)
last_of config side reads word value field_name.DescFlags refused b =
    let number = length side.delivered in
    let s = snoc_inj reads (entry_read config number b.0 ∷ low_read config number b.0 ∷ high_read config number b.0 ∷ length_read config number b.0 ∷ []) (got word value) (flags_read config number b.0) b.1 in
    (b.0, b.2, word_is word value _ _ s.1, b.5 ∙ ap desc_flags (value_is word value _ b.0.flags_word s.1), b.6)
last_of config side reads word value field_name.UsedIndex refused b =
    let e = (snoc_inj reads b.0 (got word value) _ b.2).1 in (word_is word value _ b.1 e, b.3 ∙ ap high_half (value_is word value _ b.1 e), b.4)
last_of config side reads word value field_name.UsedId refused b =
    let e = (snoc_inj reads b.0 (got word value) _ b.4).1 in (b.1, b.2, b.3, word_is word value _ refused e, value_is word value _ refused e, b.5)

-- The words of the fields are different

FieldWord : EndConfig → FieldName → ℕ → Type 0
FieldWord config field_name.AvailIndex word = word ≡ config.other_start + word_offset config.sizes AvailIndex
FieldWord config field_name.AvailEntry word = (k : ℕ) × (k < size_of config.sizes) × (word ≡ config.other_start + word_offset config.sizes (AvailEntry k))
FieldWord config field_name.DescAddress word = (e : ℕ) × (e < size_of config.sizes) × (word ≡ config.other_start + word_offset config.sizes (DescAddress e) + 1)
FieldWord config field_name.DescLength word = (e : ℕ) × (e < size_of config.sizes) × (word ≡ config.other_start + word_offset config.sizes (DescLength e))
FieldWord config field_name.DescFlags word = (e : ℕ) × (e < size_of config.sizes) × (word ≡ config.other_start + word_offset config.sizes (DescFlags e))
FieldWord config field_name.UsedIndex word = word ≡ config.other_start + word_offset config.sizes UsedIndex
FieldWord config field_name.UsedId word = (k : ℕ) × (k < size_of config.sizes) × (word ≡ config.other_start + word_offset config.sizes (UsedId k))

word_of_last : (config : EndConfig) (side : Side) (reads : List Got) (word value : ℕ) (field : FieldName) (refused : ℕ) → 0 < size_of config.sizes → Last config side reads word value field refused → FieldWord config field word
unfolding Last FieldWord
word_of_last config side reads word value field_name.AvailIndex refused some b = b.0
word_of_last config side reads word value field_name.AvailEntry refused some b = (avail_entry_of config (length side.delivered), mod_below (length side.delivered) (size_of config.sizes) some, b.0)
word_of_last config side reads word value field_name.DescAddress refused some b = (item_entry config (length side.delivered) b.0, b.2, b.3)
word_of_last config side reads word value field_name.DescLength refused some b = (item_entry config (length side.delivered) b.0, b.2, b.3)
word_of_last config side reads word value field_name.DescFlags refused some b = (item_entry config (length side.delivered) b.0, b.1, b.2)
word_of_last config side reads word value field_name.UsedIndex refused some b = b.0
word_of_last config side reads word value field_name.UsedId refused some b = (avail_entry_of config b.0, mod_below b.0 (size_of config.sizes) some, b.3)

module _ (config : EndConfig) where
  only_avail_index : (field : FieldName) → FieldWord config field (config.other_start + word_offset config.sizes AvailIndex) → field ≡ field_name.AvailIndex
  unfolding FieldWord
  only_avail_index field_name.AvailIndex f = refl
  only_avail_index field_name.UsedIndex f = let e = f in absurd (omega arith)
  only_avail_index _ f = let s = f.1 in let e = f.2 in absurd (omega arith)

  only_entry : (i : ℕ) → i < size_of config.sizes → (field : FieldName) → FieldWord config field (config.other_start + word_offset config.sizes (AvailEntry i)) → field ≡ field_name.AvailEntry
  unfolding FieldWord
  only_entry i low field_name.AvailIndex f = let e = f in absurd (omega arith)
  only_entry i low field_name.AvailEntry f = refl
  only_entry i low field_name.UsedIndex f = let e = f in absurd (omega arith)
  only_entry i low _ f = let s = f.1 in let e = f.2 in absurd (omega arith)

  only_low : (i : ℕ) → i < size_of config.sizes → (field : FieldName) → FieldWord config field (config.other_start + word_offset config.sizes (DescAddress i)) → ⊥
  unfolding FieldWord
  only_low i low field_name.AvailIndex f = let e = f in absurd (omega arith)
  only_low i low field_name.UsedIndex f = let e = f in absurd (omega arith)
  only_low i low _ f = let s = f.1 in let e = f.2 in absurd (omega arith)

  only_high : (i : ℕ) → i < size_of config.sizes → (field : FieldName) → FieldWord config field (config.other_start + word_offset config.sizes (DescAddress i) + 1) → field ≡ field_name.DescAddress
  unfolding FieldWord
  only_high i low field_name.AvailIndex f = let e = f in absurd (omega arith)
  only_high i low field_name.DescAddress f = refl
  only_high i low field_name.UsedIndex f = let e = f in absurd (omega arith)
  only_high i low _ f = let s = f.1 in let e = f.2 in absurd (omega arith)

  only_length : (i : ℕ) → i < size_of config.sizes → (field : FieldName) → FieldWord config field (config.other_start + word_offset config.sizes (DescLength i)) → field ≡ field_name.DescLength
  unfolding FieldWord
  only_length i low field_name.AvailIndex f = let e = f in absurd (omega arith)
  only_length i low field_name.DescLength f = refl
  only_length i low field_name.UsedIndex f = let e = f in absurd (omega arith)
  only_length i low _ f = let s = f.1 in let e = f.2 in absurd (omega arith)

  only_flags : (i : ℕ) → i < size_of config.sizes → (field : FieldName) → FieldWord config field (config.other_start + word_offset config.sizes (DescFlags i)) → field ≡ field_name.DescFlags
  unfolding FieldWord
  only_flags i low field_name.AvailIndex f = let e = f in absurd (omega arith)
  only_flags i low field_name.DescFlags f = refl
  only_flags i low field_name.UsedIndex f = let e = f in absurd (omega arith)
  only_flags i low _ f = let s = f.1 in let e = f.2 in absurd (omega arith)

  only_used_index : (field : FieldName) → FieldWord config field (config.other_start + word_offset config.sizes UsedIndex) → field ≡ field_name.UsedIndex
  unfolding FieldWord
  only_used_index field_name.AvailIndex f = let e = f in absurd (omega arith)
  only_used_index field_name.UsedIndex f = refl
  only_used_index _ f = let s = f.1 in let e = f.2 in absurd (omega arith)

  only_id : (i : ℕ) → i < size_of config.sizes → (field : FieldName) → FieldWord config field (config.other_start + word_offset config.sizes (UsedId i)) → field ≡ field_name.UsedId
  unfolding FieldWord
  only_id i low field_name.AvailIndex f = let e = f in absurd (omega arith)
  only_id i low field_name.UsedIndex f = let e = f in absurd (omega arith)
  only_id i low field_name.UsedId f = refl
  only_id i low _ f = let s = f.1 in let e = f.2 in absurd (omega arith)

  no_event : (field : FieldName) → FieldWord config field (config.other_start + word_offset config.sizes AvailEvent) → ⊥
  unfolding FieldWord
  no_event field_name.AvailIndex f = let e = f in absurd (omega arith)
  no_event field_name.UsedIndex f = let e = f in absurd (omega arith)
  no_event _ f = let s = f.1 in let e = f.2 in absurd (omega arith)

  no_word : (a j : ℕ) → data_area_start config.sizes ≤ a → (field : FieldName) → FieldWord config field (config.other_start + (a / 4 + j)) → ⊥
  unfolding FieldWord
  no_word a j high field_name.AvailIndex f = let e = f in absurd (omega arith)
  no_word a j high field_name.UsedIndex f = let e = f in absurd (omega arith)
  no_word a j high _ f = let s = f.1 in let e = f.2 in absurd (omega arith)

  no_state : (w : ℕ) → w < config.other_start → (field : FieldName) → FieldWord config field (w) → ⊥
  unfolding FieldWord
  no_state w low field_name.AvailIndex f = let e = f in absurd (omega arith)
  no_state w low field_name.UsedIndex f = let e = f in absurd (omega arith)
  no_state w low _ f = let s = f.1 in let e = f.2 in absurd (omega arith)

-- The marks of the step

test_fails : (a b : ℕ) → ¬ (a ≤ b) → nat_le a b ≡ false
test_fails a b beyond = dite (dec_lt b a) (λ above. grind (arith, nat_tests)) (λ upto. absurd (beyond (omega arith)))

same_fails : (a b : ℕ) → a ≢ b → (a == b) ≡ false
same_fails a b ne = grind (arith, nat_tests)

read_word : (a w : ℕ) → access.Read a ≡ access.Read w → w ≡ a
read_word a w e = cc

second_of : (a b c d : Got) (xs ys : List Got) → a ∷ b ∷ xs ≡ c ∷ d ∷ ys → b ≡ d
second_of a b c d xs ys e = cc

third_of : (a b c d e f : Got) (xs ys : List Got) → a ∷ b ∷ c ∷ xs ≡ d ∷ e ∷ f ∷ ys → c ≡ f
third_of a b c d e f xs ys is = cc

-- The marks are the field's refusal.
at_field : (config : EndConfig) (side : Side) (reads : List Got) (word value : ℕ) (field here : FieldName) (refused : ℕ) (marks : List Mark) → field ≡ here → (Last config side reads word value here refused → marks ≡ refusal here refused) →
    Last config side reads word value field refused → marks ≡ refusal field refused
at_field config side reads word value field here refused marks is show last =
    subst (λ (f : FieldName). Last config side reads word value f refused → marks ≡ refusal f refused) (sym is) show last

refused_as : (marks : List Mark) (field : FieldName) (value refused : ℕ) → marks ≡ refusal field value → refused ≡ value → marks ≡ refusal field refused
refused_as marks field value refused is e = is ∙ ap (refusal field) (sym e)

-- The facts of the end and its call.
record Facts (link_config : LinkConfig) (p : ℕ) (memory : ℕ → ℕ) (end : End) (side : Side) (reads : List Got) (place : Place) : Type 0 where
  alone : EndInvariant link_config memory p end place
  si : SideIs end place side
  reads_are : ReadsAre (config_of link_config p) place reads

module _ (link_config : LinkConfig) (p : ℕ) (memory : ℕ → ℕ) (end : End) (side : Side) (reads : List Got) (value : ℕ) (word : ℕ) (field : FieldName) (refused : ℕ) (is : IsLinkConfig link_config) where
  Refuses : Place → Type 0
  Refuses place = Facts link_config p memory end side reads place → access_at (config_of link_config p) place ≡ access.Read word → Last (config_of link_config p) side reads word value field refused → FieldWord (config_of link_config p) field word →
      marks_at (config_of link_config p) place value ≡ refusal field refused

  number_of : (place : Place) (number : ℕ) → SideIs end place side → number ≡ length end.delivered → number ≡ length side.delivered
  number_of place number si e = e ∙ delivered_number end place side side.delivered si refl

  avail_index_beyond : (taken : ℕ) (final : Bool) → Refuses (ReadingAvailIndex taken final)
  unfolding Refuses Last
  avail_index_beyond taken final f at last there =
      let config = config_of link_config p in
      let count = published_by taken value in
      let only = only_avail_index config field (subst (FieldWord config field) (read_word _ word at) there) in
      at_field config side reads word value field field_name.AvailIndex refused (marks_at config (ReadingAvailIndex taken final) value) only
      (λ l. let n = number_of (ReadingAvailIndex taken final) taken f.si f.alone.holds.1 in
      let beyond : ¬ IsAvailIndex link_config.sizes (taken % 65536) (high_half value) = subst (λ (k : ℕ). ¬ IsAvailIndex link_config.sizes (k % 65536) (high_half value)) (sym n) (subst (λ (r : ℕ). ¬ IsAvailIndex link_config.sizes (length side.delivered % 65536) r) l.1 l.2) in
      refused_as _ field_name.AvailIndex (high_half value) refused (no (is_avail_index link_config.sizes (taken % 65536) (high_half value)) (look_marks final count) (refusal field_name.AvailIndex (high_half value)) (test_fails count (size_of link_config.sizes) beyond)) l.1) last

  used_index_beyond : (pending : PendingOffer) (freed : ℕ) → Refuses (ReadingUsedIndex pending freed)
  unfolding Refuses Last
  used_index_beyond pending freed f at last there =
      let config = config_of link_config p in
      let count = returned_by freed value in
      let only = only_used_index config field (subst (FieldWord config field) (read_word _ word at) there) in
      let freed_is : freed ≡ side.freed = f.alone.holds.2 ∙ sym f.si.freed in
      let number : pending.number ≡ length side.accepted = f.alone.holds.1.number ∙ accepted_number end (ReadingUsedIndex pending freed) side side.accepted f.si refl in
      at_field config side reads word value field field_name.UsedIndex refused (marks_at config (ReadingUsedIndex pending freed) value) only
      (λ l. let beyond : ¬ IsUsedIndex (side.freed % 65536) (high_half value) (length side.accepted - side.freed) = subst (λ (r : ℕ). ¬ IsUsedIndex (side.freed % 65536) r (length side.accepted - side.freed)) l.1 l.2 in
      let mine : ¬ IsUsedIndex (freed % 65536) (high_half value) (pending.number - freed) =
      subst (λ (n : ℕ). ¬ IsUsedIndex (freed % 65536) (high_half value) (n - freed)) (sym number) (subst (λ (k : ℕ). ¬ IsUsedIndex (k % 65536) (high_half value) (length side.accepted - k)) (sym freed_is) beyond) in
      refused_as _ field_name.UsedIndex (high_half value) refused (no (is_used_index (freed % 65536) (high_half value) (pending.number - freed)) (reclaim_marks config pending freed count) (refusal field_name.UsedIndex (high_half value)) (test_fails count (pending.number - freed) mine)) l.1) last

  same_number : (freed number count : ℕ) → freed < count → count ≤ freed + limit_of link_config.sizes → number < count → count ≤ number + limit_of link_config.sizes → number % size_of link_config.sizes ≡ freed % size_of link_config.sizes → number ≡ freed
  same_number freed number count f1 f2 n1 n2 same =
      let b = numbers link_config is in let least = b.size_least in let most = b.limit_most in
      dite (dec_lt freed number) (λ up. absurd (ring_apart (size_of link_config.sizes) freed number (omega arith) up (omega arith) same))
      (λ upto. dite (dec_lt number freed) (λ down. absurd (ring_apart (size_of link_config.sizes) number freed (omega arith) down (omega arith) (sym same))) (λ other. omega arith))

  used_id_beyond : (pending : PendingOffer) (freed more : ℕ) → Refuses (ReadingUsedId pending freed more)
  unfolding Refuses Last
  used_id_beyond pending freed more f at last there =
      let config = config_of link_config p in
      let b = numbers link_config is in let least = b.size_least in
      let only = only_id config (avail_entry_of config freed) (mod_below freed (size_of link_config.sizes) (omega arith)) field (subst (FieldWord config field) (read_word _ word at) there) in
      let all = f.alone.holds.2 in let within = f.alone.holds.3 in let below = f.alone.freed in let g = f.si.freed in
      at_field config side reads word value field field_name.UsedId refused (marks_at config (ReadingUsedId pending freed more) value) only
      (λ l. let words : config.other_start + word_offset link_config.sizes (UsedId (avail_entry_of config freed)) ≡ config.other_start + word_offset link_config.sizes (UsedId (avail_entry_of config l.0)) = sym (read_word _ word at) ∙ l.3 in
      let place : avail_entry_of config l.0 ≡ avail_entry_of config freed = omega arith in
      let low = l.1 in let high = l.2 in
      let number : l.0 ≡ freed = same_number freed l.0 side.freed (omega arith) (omega arith) low high place in
      let wrong : ¬ IsUsedId (freed % limit_of link_config.sizes) value = subst (λ (k : ℕ). ¬ IsUsedId (k % limit_of link_config.sizes) value) number (subst (λ (r : ℕ). ¬ IsUsedId (l.0 % limit_of link_config.sizes) r) l.4 l.5) in
      refused_as _ field_name.UsedId value refused (no (is_used_id (descriptor_of config freed) value) (if more == 0 then full_marks config pending (freed + 1) else []) (refusal field_name.UsedId value) (same_fails value (descriptor_of config freed) wrong)) l.4) last

  entry_beyond : (number more : ℕ) → Refuses (ReadingAvailEntry number more)
  unfolding Refuses Last
  entry_beyond number more f at last there =
      let config = config_of link_config p in
      let b = numbers link_config is in let least = b.size_least in
      let only = only_entry config (avail_entry_of config number) (mod_below number (size_of link_config.sizes) (omega arith)) field (subst (FieldWord config field) (read_word _ word at) there) in
      at_field config side reads word value field field_name.AvailEntry refused (marks_at config (ReadingAvailEntry number more) value) only
      (λ l. let n = number_of (ReadingAvailEntry number more) number f.si f.alone.holds.1 in
      let entry = entry_half (avail_entry_of config number) value in
      let same : refused ≡ entry = l.1 ∙ ap (λ (k : ℕ). entry_half (avail_entry_of config k) value) (sym n) in
      refused_as _ field_name.AvailEntry entry refused (no (is_avail_entry link_config.sizes entry) [] (refusal field_name.AvailEntry entry) (entry_fails link_config.sizes entry (subst (λ (r : ℕ). ¬ IsAvailEntry link_config.sizes r) same l.2))) same) last

  low_beyond : (number more entry : ℕ) → Refuses (ReadingDescAddressLow number more entry)
  unfolding Refuses Last
  low_beyond number more entry f at last there =
      let config = config_of link_config p in
      let low : entry < size_of link_config.sizes = subst (λ (e : ℕ). e < size_of link_config.sizes) (sym f.reads_are.2) f.reads_are.3 in
      absurd (only_low config entry low field (subst (FieldWord config field) (read_word _ word at) there))

  high_beyond : (number more entry low : ℕ) → Refuses (ReadingDescAddressHigh number more entry low)
  unfolding Refuses Last
  high_beyond number more entry low f at last there =
      let config = config_of link_config p in
      let r = f.reads_are in
      let small : entry < size_of link_config.sizes = subst (λ (e : ℕ). e < size_of link_config.sizes) (sym r.2) r.3 in
      let only = only_high config entry small field (subst (FieldWord config field) (read_word _ word at) there) in
      let address = address_of low value in
      at_field config side reads word value field field_name.DescAddress refused (marks_at config (ReadingDescAddressHigh number more entry low) value) only
      (λ l. let lows = ap (λ (g : Got). g.value) (second_of _ _ _ _ _ _ (sym r.1 ∙ l.1)) in
      let same : refused ≡ address = l.4 ∙ ap (λ (k : ℕ). address_of k value) (sym (r.4 ∙ lows)) in
      refused_as _ field_name.DescAddress address refused (no (is_desc_address link_config.sizes address) [] (refusal field_name.DescAddress address) (address_fails link_config.sizes address (subst (λ (k : ℕ). ¬ IsDescAddress link_config.sizes k) same l.5))) same) last

  length_beyond : (number more entry address : ℕ) → Refuses (ReadingDescLength number more entry address)
  unfolding Refuses Last
  length_beyond number more entry address f at last there =
      let config = config_of link_config p in
      let r = f.reads_are in
      let small : entry < size_of link_config.sizes = subst (λ (e : ℕ). e < size_of link_config.sizes) (sym r.2) r.3 in
      let only = only_length config entry small field (subst (FieldWord config field) (read_word _ word at) there) in
      at_field config side reads word value field field_name.DescLength refused (marks_at config (ReadingDescLength number more entry address) value) only
      (λ l. let lows = ap (λ (g : Got). g.value) (second_of _ _ _ _ _ _ (sym r.1 ∙ l.1)) in
      let highs = ap (λ (g : Got). g.value) (third_of _ _ _ _ _ _ _ _ (sym r.1 ∙ l.1)) in
      let same : item_address l.0 ≡ address = sym (r.4 ∙ (ap (λ (k : ℕ). address_of k r.0.high) lows ∙ ap (address_of l.0.low) highs)) in
      let beyond : ¬ IsDescLength link_config.sizes address value = subst (λ (k : ℕ). ¬ IsDescLength link_config.sizes k value) same (subst (λ (k : ℕ). ¬ IsDescLength link_config.sizes (item_address l.0) k) l.4 l.5) in
      refused_as _ field_name.DescLength value refused (no (is_desc_length link_config.sizes address value) [] (refusal field_name.DescLength value) (length_fails link_config.sizes address value beyond)) l.4) last

  flags_beyond : (number more entry address bytes : ℕ) → Refuses (ReadingDescFlags number more entry address bytes)
  unfolding Refuses Last
  flags_beyond number more entry address bytes f at last there =
      let config = config_of link_config p in
      let r = f.reads_are in
      let small : entry < size_of link_config.sizes = subst (λ (e : ℕ). e < size_of link_config.sizes) (sym r.2) r.3 in
      let only = only_flags config entry small field (subst (FieldWord config field) (read_word _ word at) there) in
      at_field config side reads word value field field_name.DescFlags refused (marks_at config (ReadingDescFlags number more entry address bytes) value) only
      (λ l. refused_as _ field_name.DescFlags (desc_flags value) refused (no (is_desc_flags (desc_flags value)) [] (refusal field_name.DescFlags (desc_flags value)) (flags_fails (desc_flags value) (subst (λ (k : ℕ). ¬ IsDescFlags k) l.3 l.4))) l.3) last

  word_beyond : (number more entry address bytes : ℕ) (words : List ℕ) (left : ℕ) → Refuses (ReadingFrameWord number more entry address bytes words left)
  unfolding Refuses Last
  word_beyond number more entry address bytes words left f at last there =
      let config = config_of link_config p in
      let high : data_area_start link_config.sizes ≤ address = subst (λ (a : ℕ). data_area_start link_config.sizes ≤ a) (sym f.reads_are.4) f.reads_are.5.1 in
      absurd (no_word config address (length words) high field (subst (FieldWord config field) (read_word _ word at) there))

  by_place : (x : Place) → Refuses x
  unfolding Refuses
  by_place (ReadingOtherState handshake) f e l there = let first = is.first in let b = read_word _ word e in absurd (no_state (config_of link_config p) word (omega arith) field there)
  by_place (ReadingUsedIndex pending freed) f e l there = used_index_beyond pending freed f e l there
  by_place (ReadingUsedId pending freed more) f e l there = used_id_beyond pending freed more f e l there
  by_place (ReadingAvailEvent number) f e l there = absurd (no_event (config_of link_config p) field (subst (FieldWord (config_of link_config p) field) (read_word _ word e) there))
  by_place (ReadingAvailIndex taken final) f e l there = avail_index_beyond taken final f e l there
  by_place (ReadingAvailEntry number more) f e l there = entry_beyond number more f e l there
  by_place (ReadingDescAddressLow number more entry) f e l there = low_beyond number more entry f e l there
  by_place (ReadingDescAddressHigh number more entry low) f e l there = high_beyond number more entry low f e l there
  by_place (ReadingDescLength number more entry address) f e l there = length_beyond number more entry address f e l there
  by_place (ReadingDescFlags number more entry address bytes) f e l there = flags_beyond number more entry address bytes f e l there
  by_place (ReadingFrameWord number more entry address bytes words left) f e l there = word_beyond number more entry address bytes words left f e l there
  by_place _ f e l there = absurd (cc)

  pub refuses : (place : Place) → EndInvariant link_config memory p end place → SideIs end place side → ReadsAre (config_of link_config p) place reads → access_at (config_of link_config p) place ≡ access.Read word →
      IsReadBeyond (config_of link_config p) side (reads ++ got word value ∷ []) field refused → marks_at (config_of link_config p) place value ≡ refusal field refused
  unfolding Refuses
  refuses place alone si reads_are at beyond = by_place place record { alone = alone; si = si; reads_are = reads_are } at last (word_of_last (config_of link_config p) side reads word value field refused some last)
    where
      some : 0 < size_of link_config.sizes
      some = let least = (numbers link_config is).size_least in omega arith

      last : Last (config_of link_config p) side reads word value field refused
      last = last_of (config_of link_config p) side reads word value field refused beyond
