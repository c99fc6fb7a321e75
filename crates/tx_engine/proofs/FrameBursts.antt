-- Bursts of words of the offered frame.
use Rattle.std.proofs.Common.{◌≡◌, ℕ, zero, suc, ◌+◌, ◌-◌, ◌*◌, ◌/◌, ◌%◌, ◌<◌, ◌≤◌, true, List, [], ◌∷◌, ◌++◌, length, take, drop, refl, sym, ap, ◌∙◌, arith, subst}
use Rattle.std.proofs.lemmas.Grind.{common_steps}
use Rattle.std.proofs.lemmas.List.{length-take}
use Rattle.ivs_base.specs.Numbers.{word_of}
use Rattle.split_ring.specs.declared.steps.Access.{Access}
use Rattle.split_ring.specs.declared.steps.Access.TheVariants as access
use Rattle.split_ring.specs.Layout.{word_offset, DescAddress, DescLength, DescFlags}
use Rattle.call_grammar.specs.Ends.{End}
use Rattle.call_grammar.specs.Ticks.{EndConfig}
use Rattle.call_grammar.specs.Offers.{PendingOffer, start_at, descriptor_of}
use Rattle.call_grammar.specs.Calls.{pending_of}
use Rattle.call_grammar.specs.Words.{words_for, frame_word, word_bytes}
use Rattle.call_grammar.specs.Bursts.{StepsThrough, WritesBurst, place_after}
use Rattle.call_grammar.specs.Places as laws
use Rattle.call_grammar.proofs.WordsOfBytes.{word_again, front_word}
use Rattle.frame_slots.specs.declared.slots.Slot as slots
use Rattle.tx_engine.specs.declared.place.Place.{Place}
use Rattle.tx_engine.specs.declared.place.Place.TheVariants.{WritingFrameWord, WritingDescAddressLow, WritingDescAddressHigh, WritingDescLength, WritingDescFlags, WritingAvailEntry}
use Rattle.tx_engine.specs.Sender.{Sender, IsSender, IsPlace, HasSlot, is_open}
use Rattle.tx_engine.specs.Continuations.{descriptor_place_of}
use Rattle.tx_engine.specs.Refinement.{RefinesAt, IsAt, TakesStep, StaysOpen}
use Rattle.tx_engine.proofs.InvariantByPlace.{placed}
use Rattle.tx_engine.proofs.Accesses.{at_here}
use Rattle.tx_engine.proofs.AfterWrites.{fills_on, fills_last, writes_low, writes_high, writes_length, writes_flags}

-- The place before word `at`, if `count` words are left.
abbrev pub fill_at : slots.Slot → (at count : ℕ) → Place
fill_at slot at zero = WritingDescAddressLow slot
fill_at slot at (suc more) = WritingFrameWord slot at more

-- A step without a note to another place of the offer.
stays : (tx : Sender) (place : Place) (value : ℕ) → IsSender tx → IsPlace (record tx { place = place }) place → is_open place ≡ true → TakesStep tx value [] (record tx { place = place }) →
    StaysOpen tx value [] (record tx { place = place })
stays tx place value is holds opened takes = record { takes = takes; opened = opened; sender = placed tx _ _ place is refl holds }

fills_one : (tx : Sender) (slot : slots.Slot) (at more value : ℕ) → IsSender tx → HasSlot tx slot → at + more + 1 ≡ words_for (length tx.frame) → tx.place ≡ WritingFrameWord slot at more →
    StaysOpen tx value [] (record tx { place = fill_at slot (at + 1) more })
fills_one tx slot at zero value is has count here = stays tx (WritingDescAddressLow slot) value is has refl (fills_last tx slot at value is here)
fills_one tx slot at (suc more) value is has count here = stays tx (WritingFrameWord slot (at + 1) more) value is (has, omega (arith, count)) refl (fills_on tx slot at more value is here)

pub fills : (tx new : Sender) (slot : slots.Slot) (at more : ℕ) (values : List ℕ) → IsSender tx → HasSlot tx slot → at + more + 1 ≡ words_for (length tx.frame) → tx.place ≡ WritingFrameWord slot at more →
    0 < length values → length values ≤ more + 1 → new ≡ record tx { place = fill_at slot (at + length values) (more + 1 - length values) } → StepsThrough StaysOpen tx values [] new
fills tx new slot at more [] is has count here some within new_is = absurd (omega (arith, some))
fills tx new slot at more (value ∷ []) is has count here some within new_is =
    let one : new ≡ record tx { place = fill_at slot (at + 1) more } = new_is ∙ ap (λ n. record tx { place = fill_at slot (at + 1) n }) (omega arith) in
    subst (λ n. StaysOpen tx value [] n) (sym one) (fills_one tx slot at more value is has count here)
fills tx new slot at zero (value ∷ next ∷ values) is has count here some within new_is = absurd (omega (arith, within))
fills tx new slot at (suc more) (value ∷ next ∷ values) is has count here some within new_is =
    let between : Sender = record tx { place = WritingFrameWord slot (at + 1) more } in
    let at_is : at + length (value ∷ next ∷ values) ≡ at + 1 + length (next ∷ values) = omega arith in
    let left : suc more + 1 - length (value ∷ next ∷ values) ≡ more + 1 - length (next ∷ values) = omega arith in
    let new_after : new ≡ record between { place = fill_at slot (at + 1 + length (next ∷ values)) (more + 1 - length (next ∷ values)) } =
    new_is ∙ ap (λ n. record tx { place = fill_at slot n (suc more + 1 - length (value ∷ next ∷ values)) }) at_is ∙ ap (λ n. record tx { place = fill_at slot (at + 1 + length (next ∷ values)) n }) left in
    let first = fills_one tx slot at (suc more) value is has count here in
    (between, first, fills between new slot (at + 1) more (next ∷ values) first.sender has (omega (arith, count)) refl (omega arith) (omega (arith, within)) new_after)

-- The writes of the words left.
writes : (config : EndConfig) (pending : PendingOffer) (at more : ℕ) (values : List ℕ) → length values ≤ more →
    laws.access_at config (place_after config (laws.WritingFrameWord pending at more) values) ≡ access.Write (config.own + start_at config pending / 4 + (at + length values)) (frame_word pending.frame (at + length values))
writes config pending at more [] few = ap (λ n. access.Write (config.own + start_at config pending / 4 + n) (frame_word pending.frame n)) (omega arith)
writes config pending at zero (value ∷ values) few = absurd (omega (arith, few))
writes config pending at (suc more) (value ∷ values) few =
    writes config pending (at + 1) more values (omega (arith, few)) ∙ ap (λ n. access.Write (config.own + start_at config pending / 4 + n) (frame_word pending.frame n)) (omega arith)

abbrev word_of_write : Access → ℕ
word_of_write (access.Write word value) = word
word_of_write _ = 0

-- The words left are written as a burst from the first of them on, if the bytes are these words.
pub writes_on : (tx : Sender) (config : EndConfig) (end : End) (place : laws.Place) (word value : ℕ) (slot : slots.Slot) (at more : ℕ) (bytes : List ℕ) → tx.place ≡ WritingFrameWord slot at more → length bytes % 4 ≡ 0 → length bytes ≤ 4 * (more + 1) →
    ((j : ℕ) → 4 * j + 4 ≤ length bytes → word_of (take 4 (drop (4 * j) bytes)) ≡ frame_word tx.frame (at + j)) →
    RefinesAt tx config end place → laws.access_at config place ≡ access.Write word value → WritesBurst config place word bytes
writes_on tx config end place word value slot at more bytes here whole within spells refines first values few =
    let is : IsAt (WritingFrameWord slot at more) tx config end place = at_here tx (WritingFrameWord slot at more) config end place here refines in
    let pending = pending_of config end tx.frame in
    let word_is : config.own + start_at config pending / 4 + at ≡ word = ap word_of_write (sym (ap (laws.access_at config) is.0) ∙ first) in
    let place_is : config.own + start_at config pending / 4 + (at + length values) ≡ word + length values = omega (arith, word_is) in
    ap (λ p. laws.access_at config (place_after config p values)) is.0 ∙ writes config pending at more values (omega (arith, few, within))
    ∙ ap (λ n. access.Write n (frame_word tx.frame (at + length values))) place_is ∙ ap (access.Write (word + length values)) (sym (spells (length values) (omega (arith, few, whole))))

open_seen : (p : Place) (tx : Sender) (config : EndConfig) (end : End) (place : laws.Place) → IsAt p tx config end place → is_open p ≡ laws.is_open place
open_seen p tx config end place is = grind (arith, common_steps)

-- An offer is open exactly if the place that the sender refines is open.
pub open_is : (tx : Sender) (config : EndConfig) (end : End) (place : laws.Place) → RefinesAt tx config end place → is_open tx.place ≡ laws.is_open place
open_is tx config end place refines = open_seen tx.place tx config end place refines.at

-- The writes of the descriptor.

describes_low : (tx : Sender) (slot : slots.Slot) (value : ℕ) → IsSender tx → HasSlot tx slot → tx.place ≡ WritingDescAddressLow slot → StaysOpen tx value [] (record tx { place = WritingDescAddressHigh slot })
describes_low tx slot value is has here = stays tx (WritingDescAddressHigh slot) value is has refl (writes_low tx slot value is here)

describes_high : (tx : Sender) (slot : slots.Slot) (value : ℕ) → IsSender tx → HasSlot tx slot → tx.place ≡ WritingDescAddressHigh slot → StaysOpen tx value [] (record tx { place = WritingDescLength slot })
describes_high tx slot value is has here = stays tx (WritingDescLength slot) value is has refl (writes_high tx slot value is here)

describes_length : (tx : Sender) (slot : slots.Slot) (value : ℕ) → IsSender tx → HasSlot tx slot → tx.place ≡ WritingDescLength slot → StaysOpen tx value [] (record tx { place = WritingDescFlags slot })
describes_length tx slot value is has here = stays tx (WritingDescFlags slot) value is has refl (writes_length tx slot value is here)

describes_flags : (tx : Sender) (slot : slots.Slot) (value : ℕ) → IsSender tx → HasSlot tx slot → tx.place ≡ WritingDescFlags slot → StaysOpen tx value [] (record tx { place = WritingAvailEntry slot })
describes_flags tx slot value is has here = stays tx (WritingAvailEntry slot) value is has refl (writes_flags tx slot value is here)

pub describes : (tx : Sender) (slot : slots.Slot) (count : ℕ) (values : List ℕ) → IsSender tx → HasSlot tx slot → tx.place ≡ WritingDescAddressLow slot → 0 < count → count ≤ 4 → length values ≡ count →
    StepsThrough StaysOpen tx values [] (record tx { place = descriptor_place_of slot count })
describes tx slot count [] is has here some few sized = absurd (omega (arith, some, sized))
describes tx slot count (a ∷ []) is has here some few sized =
    subst (λ n. StepsThrough StaysOpen tx (a ∷ []) [] (record tx { place = descriptor_place_of slot n })) sized (describes_low tx slot a is has here)
describes tx slot count (a ∷ b ∷ []) is has here some few sized =
    let one = describes_low tx slot a is has here in
    let two = describes_high (record tx { place = WritingDescAddressHigh slot }) slot b one.sender has refl in
    subst (λ n. StepsThrough StaysOpen tx (a ∷ b ∷ []) [] (record tx { place = descriptor_place_of slot n })) sized (record tx { place = WritingDescAddressHigh slot }, one, two)
describes tx slot count (a ∷ b ∷ c ∷ []) is has here some few sized =
    let one = describes_low tx slot a is has here in
    let two = describes_high (record tx { place = WritingDescAddressHigh slot }) slot b one.sender has refl in
    let three = describes_length (record tx { place = WritingDescLength slot }) slot c two.sender has refl in
    subst (λ n. StepsThrough StaysOpen tx (a ∷ b ∷ c ∷ []) [] (record tx { place = descriptor_place_of slot n })) sized
    (record tx { place = WritingDescAddressHigh slot }, one, (record tx { place = WritingDescLength slot }, two, three))
describes tx slot count (a ∷ b ∷ c ∷ d ∷ []) is has here some few sized =
    let one = describes_low tx slot a is has here in
    let two = describes_high (record tx { place = WritingDescAddressHigh slot }) slot b one.sender has refl in
    let three = describes_length (record tx { place = WritingDescLength slot }) slot c two.sender has refl in
    let four = describes_flags (record tx { place = WritingDescFlags slot }) slot d three.sender has refl in
    subst (λ n. StepsThrough StaysOpen tx (a ∷ b ∷ c ∷ d ∷ []) [] (record tx { place = descriptor_place_of slot n })) sized
    (record tx { place = WritingDescAddressHigh slot }, one, (record tx { place = WritingDescLength slot }, two, (record tx { place = WritingDescFlags slot }, three, four)))
describes tx slot count (a ∷ b ∷ c ∷ d ∷ e ∷ values) is has here some few sized = absurd (omega (arith, few, sized))

-- The words of a descriptor as bytes.
abbrev pub descriptor_bytes : (address bytes : ℕ) → List ℕ
descriptor_bytes address bytes = word_bytes address ++ (word_bytes 0 ++ (word_bytes bytes ++ word_bytes 0))

pub described_word : (config : EndConfig) (pending : PendingOffer) (word address n : ℕ) (values : List ℕ) → address < 4294967296 → length pending.frame < 4294967296 → n ≤ 16 → n % 4 ≡ 0 → 4 * length values < n →
    config.own + word_offset config.sizes (DescAddress (descriptor_of config pending.number)) ≡ word → address ≡ start_at config pending →
    laws.access_at config (place_after config (laws.WritingDescAddressLow pending) values) ≡ access.Write (word + length values) (word_of (take 4 (drop (4 * length values) (take n (descriptor_bytes address (length pending.frame))))))
described_word config pending word address n [] fits fits_too few whole fit word_is address_is =
    let spelt : word_of (take 4 (drop (4 * length {A = ℕ} []) (take n (descriptor_bytes address (length pending.frame))))) ≡ address = ap word_of (front_word (descriptor_bytes address (length pending.frame)) n 0 (omega (arith, fit, whole))) ∙ word_again address fits in
    let at : word + length {A = ℕ} [] ≡ config.own + word_offset config.sizes (DescAddress (descriptor_of config pending.number)) = omega (arith, word_is) in
    sym (ap (λ w. access.Write w (word_of (take 4 (drop (4 * length {A = ℕ} []) (take n (descriptor_bytes address (length pending.frame))))))) at ∙ ap (access.Write (config.own + word_offset config.sizes (DescAddress (descriptor_of config pending.number)))) (spelt ∙ address_is))
described_word config pending word address n (a ∷ []) fits fits_too few whole fit word_is address_is =
    let spelt : word_of (take 4 (drop 4 (take n (descriptor_bytes address (length pending.frame))))) ≡ 0 = ap word_of (front_word (descriptor_bytes address (length pending.frame)) n 4 (omega (arith, fit, whole))) in
    let at : word + 1 ≡ config.own + word_offset config.sizes (DescAddress (descriptor_of config pending.number)) + 1 = omega (arith, word_is) in
    sym (ap (λ w. access.Write w (word_of (take 4 (drop 4 (take n (descriptor_bytes address (length pending.frame))))))) at ∙ ap (access.Write (config.own + word_offset config.sizes (DescAddress (descriptor_of config pending.number)) + 1)) spelt)
described_word config pending word address n (a ∷ b ∷ []) fits fits_too few whole fit word_is address_is =
    let spelt : word_of (take 4 (drop 8 (take n (descriptor_bytes address (length pending.frame))))) ≡ length pending.frame = ap word_of (front_word (descriptor_bytes address (length pending.frame)) n 8 (omega (arith, fit, whole))) ∙ word_again (length pending.frame) fits_too in
    let at : word + 2 ≡ config.own + word_offset config.sizes (DescLength (descriptor_of config pending.number)) = omega (arith, word_is) in
    sym (ap (λ w. access.Write w (word_of (take 4 (drop 8 (take n (descriptor_bytes address (length pending.frame))))))) at ∙ ap (access.Write (config.own + word_offset config.sizes (DescLength (descriptor_of config pending.number)))) spelt)
described_word config pending word address n (a ∷ b ∷ c ∷ []) fits fits_too few whole fit word_is address_is =
    let spelt : word_of (take 4 (drop 12 (take n (descriptor_bytes address (length pending.frame))))) ≡ 0 = ap word_of (front_word (descriptor_bytes address (length pending.frame)) n 12 (omega (arith, fit, whole))) in
    let at : word + 3 ≡ config.own + word_offset config.sizes (DescFlags (descriptor_of config pending.number)) = omega (arith, word_is) in
    sym (ap (λ w. access.Write w (word_of (take 4 (drop 12 (take n (descriptor_bytes address (length pending.frame))))))) at ∙ ap (access.Write (config.own + word_offset config.sizes (DescFlags (descriptor_of config pending.number)))) spelt)
described_word config pending word address n (a ∷ b ∷ c ∷ d ∷ values) fits fits_too few whole fit word_is address_is = absurd (omega (arith, fit, few))

pub describes_on : (tx : Sender) (config : EndConfig) (end : End) (place : laws.Place) (word value : ℕ) (slot : slots.Slot) (n : ℕ) → tx.place ≡ WritingDescAddressLow slot → slot.address < 4294967296 → length tx.frame < 4294967296 → n ≤ 16 → n % 4 ≡ 0 →
    RefinesAt tx config end place → laws.access_at config place ≡ access.Write word value → WritesBurst config place word (take n (descriptor_bytes slot.address (length tx.frame)))
describes_on tx config end place word value slot n here fits fits_too few whole refines first values within =
    let is : IsAt (WritingDescAddressLow slot) tx config end place = at_here tx (WritingDescAddressLow slot) config end place here refines in
    let pending = pending_of config end tx.frame in
    let word_is : config.own + word_offset config.sizes (DescAddress (descriptor_of config pending.number)) ≡ word = ap word_of_write (sym (ap (laws.access_at config) is.0) ∙ first) in
    let address : slot.address ≡ start_at config pending = ap (λ (s : slots.Slot). s.address) is.1.1 in
    let bytes = descriptor_bytes slot.address (length tx.frame) in
    let fit : 4 * length values < n = omega (arith, within, length-take n bytes) in
    ap (λ p. laws.access_at config (place_after config p values)) is.0 ∙ described_word config pending word slot.address n values fits fits_too few whole fit word_is address
