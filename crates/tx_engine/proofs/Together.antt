-- All bursts that an offer writes before its index.
use Rattle.std.proofs.Common.{◌≡◌, ℕ, zero, suc, ◌+◌, ◌-◌, ◌*◌, ◌/◌, ◌%◌, ◌<◌, ◌≤◌, List, [], ◌∷◌, ◌++◌, length, take, drop, refl, sym, ap, ◌∙◌, arith, subst}
use Rattle.std.proofs.lemmas.List.{length-take, length-drop, take-append-drop}
use Rattle.ivs_base.specs.Numbers.{word_of}
use Rattle.split_ring.specs.declared.steps.Access.TheVariants as access
use Rattle.split_ring.specs.declared.steps.Note.{Note}
use Rattle.split_ring.specs.Layout.{size_of, word_offset, DescAddress, AvailEntry}
use Rattle.call_grammar.specs.Ends.{End}
use Rattle.call_grammar.specs.Ticks.{EndConfig}
use Rattle.call_grammar.specs.Offers.{PendingOffer, start_at, descriptor_of}
use Rattle.call_grammar.specs.Calls.{pending_of}
use Rattle.call_grammar.specs.Words.{words_for, frame_word, word_bytes}
use Rattle.call_grammar.specs.Bursts.{StepsThrough, WritesBurst, place_after}
use Rattle.call_grammar.specs.Places as laws
use Rattle.call_grammar.proofs.WordsOfBytes.{word_again}
use Rattle.frame_slots.specs.declared.slots.Slot as slots
use Rattle.tx_engine.specs.declared.ahead.Burst.{Burst}
use Rattle.tx_engine.specs.declared.ahead.Bursts.{Bursts}
use Rattle.tx_engine.specs.declared.place.Place.TheVariants.{WritingFrameWord, WritingDescAddressLow, WritingAvailEntry}
use Rattle.tx_engine.specs.Sender.{Sender, IsSender, HasSlot, entry_word_of}
use Rattle.tx_engine.specs.Ahead.{listed, WritesAll}
use Rattle.tx_engine.specs.Refinement.{RefinesAt, IsAt, IsMadeFor, HasPlaced, StaysOpen}
use Rattle.tx_engine.proofs.InvariantByPlace.{placed}
use Rattle.tx_engine.proofs.Accesses.{at_here, entry_access}
use Rattle.tx_engine.proofs.FrameBursts.{fill_at, fills, describes, writes_on, described_word, descriptor_bytes}

-- The steps

-- Some steps, and then more steps.
joined : {S : Type 0} (Takes : S → ℕ → List Note → S → Type 0) (old mid new : S) (values more : List ℕ) → 0 < length more → StepsThrough Takes old values [] mid → StepsThrough Takes mid more [] new → StepsThrough Takes old (values ++ more) [] new
joined Takes old mid new [] more some first rest = subst (λ s. StepsThrough Takes s more [] new) first.1 rest
joined Takes old mid new (value ∷ []) [] some first rest = absurd (omega (arith, some))
joined Takes old mid new (value ∷ []) (other ∷ more) some first rest = (mid, first, rest)
joined Takes old mid new (value ∷ next ∷ values) more some (between, first, others) rest = (between, first, joined Takes between mid new (next ∷ values) more some others rest)

-- One step.
once : {S : Type 0} (Takes : S → ℕ → List Note → S → Type 0) (old new : S) (values : List ℕ) → length values ≡ 1 → ((value : ℕ) → Takes old value [] new) → StepsThrough Takes old values [] new
once Takes old new [] one step = absurd (omega (arith, one))
once Takes old new (value ∷ []) one step = step value
once Takes old new (value ∷ next ∷ values) one step = absurd (omega (arith, one))

-- The steps of the words left of the frame, of the descriptor and of the available entry.
pub takes_all : (tx new : Sender) (slot : slots.Slot) (at more : ℕ) (values : List ℕ) → IsSender tx → HasSlot tx slot → at + more + 1 ≡ words_for (length tx.frame) → tx.place ≡ WritingFrameWord slot at more →
    length values ≡ more + 1 + 4 + 1 → ((value : ℕ) → StaysOpen (record tx { place = WritingAvailEntry slot }) value [] new) → StepsThrough StaysOpen tx values [] new
takes_all tx new slot at more values is has count here sized enters =
    let low : Sender = record tx { place = WritingDescAddressLow slot } in
    let entry : Sender = record tx { place = WritingAvailEntry slot } in
    let filled = take (more + 1) values in
    let rest = drop (more + 1) values in
    let descriptor_place_of = take 4 rest in
    let last = drop 4 rest in
    let left : length rest ≡ 5 = omega (arith, length-drop (more + 1) values, sized) in
    let filled_sized : length filled ≡ more + 1 = omega (arith, length-take (more + 1) values, sized) in
    let described_sized : length descriptor_place_of ≡ 4 = omega (arith, length-take 4 rest, left) in
    let last_sized : length last ≡ 1 = omega (arith, length-drop 4 rest, left) in
    let none : 0 ≡ more + 1 - length filled = omega (arith, filled_sized) in
    let low_is : low ≡ record tx { place = fill_at slot (at + length filled) (more + 1 - length filled) } = ap (λ n. record tx { place = fill_at slot (at + length filled) n }) none in
    let first = fills tx low slot at more filled is has count here (omega (arith, filled_sized)) (omega (arith, filled_sized)) low_is in
    let second = describes low slot 4 descriptor_place_of (placed tx _ _ (WritingDescAddressLow slot) is refl has) has refl (omega arith) (omega arith) described_sized in
    let third = once StaysOpen entry new last last_sized enters in
    let others = joined StaysOpen low entry new descriptor_place_of last (omega (arith, last_sized)) second third in
    let rest_is : descriptor_place_of ++ last ≡ rest = take-append-drop 4 rest in
    let all_is : filled ++ rest ≡ values = take-append-drop (more + 1) values in
    subst (λ vs. StepsThrough StaysOpen tx vs [] new) all_is
    (joined StaysOpen tx low new filled rest (omega (arith, left)) first (subst (λ vs. StepsThrough StaysOpen low vs [] new) rest_is others))

-- The words

-- The place after the words of the frame, and the place after the descriptor.
after_frame : (config : EndConfig) (pending : PendingOffer) (at more : ℕ) (values : List ℕ) → length values ≡ more + 1 → place_after config (laws.WritingFrameWord pending at more) values ≡ laws.WritingDescAddressLow pending
after_frame config pending at more [] sized = absurd (omega (arith, sized))
after_frame config pending at zero (value ∷ []) sized = refl
after_frame config pending at zero (value ∷ next ∷ values) sized = absurd (omega (arith, sized))
after_frame config pending at (suc more) (value ∷ values) sized = after_frame config pending (at + 1) more values (omega (arith, sized))

after_descriptor : (config : EndConfig) (pending : PendingOffer) (values : List ℕ) → length values ≡ 4 → place_after config (laws.WritingDescAddressLow pending) values ≡ laws.WritingAvailEntry pending
after_descriptor config pending [] sized = absurd (omega (arith, sized))
after_descriptor config pending (a ∷ []) sized = absurd (omega (arith, sized))
after_descriptor config pending (a ∷ b ∷ []) sized = absurd (omega (arith, sized))
after_descriptor config pending (a ∷ b ∷ c ∷ []) sized = absurd (omega (arith, sized))
after_descriptor config pending (a ∷ b ∷ c ∷ d ∷ []) sized = refl
after_descriptor config pending (a ∷ b ∷ c ∷ d ∷ e ∷ values) sized = absurd (omega (arith, sized))

-- The word of the available entry.
writes_entry : (tx : Sender) (config : EndConfig) (end : End) (slot : slots.Slot) → IsSender tx → IsMadeFor tx config → HasPlaced tx config end slot → entry_word_of tx slot.descriptor < 4294967296 →
    WritesBurst config (laws.WritingAvailEntry (pending_of config end tx.frame)) (tx.own + word_offset tx.sizes (AvailEntry (tx.accepted % size_of tx.sizes))) (word_bytes (entry_word_of tx slot.descriptor))
writes_entry tx config end slot is made has fits [] few =
    let word = tx.own + word_offset tx.sizes (AvailEntry (tx.accepted % size_of tx.sizes)) in
    let value = entry_word_of tx slot.descriptor in
    let here : word ≡ word + length {A = ℕ} [] = omega arith in
    sym (entry_access tx config end (laws.WritingAvailEntry (pending_of config end tx.frame)) slot is made (refl, has))
    ∙ ap (access.Write word) (sym (word_again value fits)) ∙ ap (λ w. access.Write w (word_of (word_bytes value))) here
writes_entry tx config end slot is made has fits (value ∷ values) few = absurd (omega (arith, few))

-- The words of the descriptor.
writes_descriptor : (tx : Sender) (config : EndConfig) (end : End) (slot : slots.Slot) → IsMadeFor tx config → HasPlaced tx config end slot → slot.address < 4294967296 → length tx.frame < 4294967296 →
    WritesBurst config (laws.WritingDescAddressLow (pending_of config end tx.frame)) (tx.own + word_offset tx.sizes (DescAddress slot.descriptor)) (take 16 (descriptor_bytes slot.address (length tx.frame)))
writes_descriptor tx config end slot made has fits fits_too values few =
    let pending = pending_of config end tx.frame in
    let descriptor : slot.descriptor ≡ descriptor_of config pending.number = ap (λ (s : slots.Slot). s.descriptor) has.1 in
    let address : slot.address ≡ start_at config pending = ap (λ (s : slots.Slot). s.address) has.1 in
    let word_is : config.own + word_offset config.sizes (DescAddress (descriptor_of config pending.number)) ≡ tx.own + word_offset tx.sizes (DescAddress slot.descriptor) =
    ap (λ own. own + word_offset config.sizes (DescAddress (descriptor_of config pending.number))) made.own
    ∙ ap (λ q. tx.own + word_offset q (DescAddress (descriptor_of config pending.number))) made.sizes ∙ ap (λ d. tx.own + word_offset tx.sizes (DescAddress d)) (sym descriptor) in
    described_word config pending (tx.own + word_offset tx.sizes (DescAddress slot.descriptor)) slot.address 16 values fits fits_too (omega arith) refl (omega (arith, few, length-take 16 (descriptor_bytes slot.address (length tx.frame)))) word_is address

-- The words of the frame, and then those of the descriptor and of the entry.
pub writes_all : (tx : Sender) (config : EndConfig) (end : End) (place : laws.Place) (slot : slots.Slot) (at more : ℕ) (s : Bursts) (frame descriptor entry bytes : List ℕ) → IsSender tx → tx.place ≡ WritingFrameWord slot at more →
    slot.address < 4294967296 → length tx.frame < 4294967296 → entry_word_of tx slot.descriptor < 4294967296 →
    length frame ≡ 4 * (more + 1) → ((j : ℕ) → 4 * j + 4 ≤ length frame → word_of (take 4 (drop (4 * j) frame)) ≡ frame_word tx.frame (at + j)) →
    descriptor ≡ take 16 (descriptor_bytes slot.address (length tx.frame)) → entry ≡ word_bytes (entry_word_of tx slot.descriptor) → bytes ≡ frame ++ (descriptor ++ entry) →
    RefinesAt tx config end place → s ≡ record {
      frame = record { word = tx.own + (slot.address / 4 + at); count = more + 1 };
      descriptor = record { word = tx.own + word_offset tx.sizes (DescAddress slot.descriptor); count = 4 };
      entry = record { word = tx.own + word_offset tx.sizes (AvailEntry (tx.accepted % size_of tx.sizes)); count = 1 };
    } → WritesAll config place (listed s) bytes
writes_all tx config end place slot at more s frame descriptor entry bytes is here fits fits_too fits_entry sized spells descriptor_is entry_is bytes_is refines s_is =
    let made = refines.made in
    let seen : IsAt (WritingFrameWord slot at more) tx config end place = at_here tx (WritingFrameWord slot at more) config end place here refines in
    let pending = pending_of config end tx.frame in
    let address : slot.address ≡ start_at config pending = ap (λ (s : slots.Slot). s.address) seen.1.1 in
    let word_is : config.own + start_at config pending / 4 + at ≡ tx.own + (slot.address / 4 + at) = omega (arith, made.own, address) in
    let first : laws.access_at config place ≡ access.Write (tx.own + (slot.address / 4 + at)) (frame_word tx.frame at) = ap (laws.access_at config) seen.0 ∙ ap (λ w. access.Write w (frame_word tx.frame at)) word_is in
    let low = λ (values : List ℕ) (count : length values ≡ more + 1). ap (λ p. place_after config p values) seen.0 ∙ after_frame config pending at more values count in
    let entry_burst : Burst = record { word = tx.own + word_offset tx.sizes (AvailEntry (tx.accepted % size_of tx.sizes)); count = 1 } in
    let descriptor_burst : Burst = record { word = tx.own + word_offset tx.sizes (DescAddress slot.descriptor); count = 4 } in
    let entering : WritesAll config (laws.WritingAvailEntry pending) (entry_burst ∷ []) (word_bytes (entry_word_of tx slot.descriptor)) =
    (word_bytes (entry_word_of tx slot.descriptor), [], refl, refl, writes_entry tx config end slot is made seen.1 fits_entry, λ values count. refl) in
    let behind : WritesAll config (laws.WritingDescAddressLow pending) (descriptor_burst ∷ entry_burst ∷ []) (descriptor ++ entry) = (
      descriptor,
      entry,
      refl,
      ap length descriptor_is,
      subst (WritesBurst config (laws.WritingDescAddressLow pending) descriptor_burst.word) (sym descriptor_is) (writes_descriptor tx config end slot made seen.1 fits fits_too),
      λ values count. subst (λ p. WritesAll config p (entry_burst ∷ []) entry) (sym (after_descriptor config pending values count)) (subst (WritesAll config (laws.WritingAvailEntry pending) (entry_burst ∷ [])) (sym entry_is) entering),
    ) in
    subst (λ t. WritesAll config place (listed t) bytes) (sym s_is) (
      frame,
      descriptor ++ entry,
      bytes_is,
      sized,
      writes_on tx config end place _ _ slot at more frame here (omega (arith, sized)) (omega (arith, sized)) spells refines first,
      λ values count. subst (λ p. WritesAll config p (descriptor_burst ∷ entry_burst ∷ []) (descriptor ++ entry)) (sym (low values count)) behind,
    )
