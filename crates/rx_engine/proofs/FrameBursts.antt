-- Bursts of reads of a frame's words.
use Rattle.std.proofs.Common.{◌≡◌, ℕ, zero, suc, ◌+◌, ◌-◌, ◌*◌, ◌/◌, ◌%◌, ◌<◌, ◌≤◌, List, [], ◌∷◌, ◌++◌, length, take, drop, refl, sym, ap, ◌∙◌, arith, subst}
use Rattle.std.proofs.lemmas.Grind.{common_steps}
use Rattle.std.proofs.lemmas.List.{take_all, append_assoc, length-take}
use Rattle.std.specs.List.{flat_map}
use Rattle.ivs_base.specs.Numbers.{word_of}
use Rattle.split_ring.specs.Layout.{word_offset, UsedId, UsedLength}
use Rattle.split_ring.specs.declared.steps.Access.{Access}
use Rattle.split_ring.specs.declared.steps.Access.TheVariants as access
use Rattle.split_ring.specs.declared.steps.Note.{Note}
use Rattle.split_ring.specs.declared.steps.Note.TheVariants as note
use Rattle.call_grammar.specs.Ends.{End}
use Rattle.call_grammar.specs.Ticks.{EndConfig}
use Rattle.call_grammar.specs.Words.{word_bytes, words_for}
use Rattle.call_grammar.specs.Bursts.{StepsThrough, ReadsBurst, WritesBurst, place_after}
use Rattle.call_grammar.specs.Offers.{avail_entry_of}
use Rattle.call_grammar.specs.Places as laws
use Rattle.call_grammar.proofs.WordsOfBytes.{word_again, front_word}
use Rattle.rx_engine.specs.Receiver.{Receiver, is_open_at, is_busy, given}
use Rattle.rx_engine.specs.Refinement.{RefinesAt, StaysOpen, place_view}
use Rattle.rx_engine.specs.declared.place.Place.{Place}
use Rattle.rx_engine.specs.declared.place.Place.TheVariants.{Closed, ReadingAvailIndex, WritingAvailEvent, ReadingAvailEntry, ReadingDescAddressLow, ReadingDescAddressHigh, ReadingDescLength, ReadingDescFlags, ReadingFrameWord, WritingUsedId, WritingUsedLength, WritingUsedIndex, Ringing, Refusing}
use Rattle.rx_engine.proofs.FrameReads.{word_delivers, word_goes}

-- The reads of the words left.
reads : (config : EndConfig) (number more entry address bytes : ℕ) (read : List ℕ) (words : ℕ) (values : List ℕ) → length values ≤ words →
    laws.access_at config (place_after config (laws.ReadingFrameWord number more entry address bytes read words) values) ≡ access.Read (config.other_start + (address / 4 + (length read + length values)))
reads config number more entry address bytes read words [] few = ap (λ n. access.Read (config.other_start + (address / 4 + n))) (omega arith)
reads config number more entry address bytes read zero (value ∷ values) few = absurd (omega (arith, few))
reads config number more entry address bytes read (suc words) (value ∷ values) few =
    reads config number more entry address bytes (read ++ value ∷ []) words values (omega (arith, few)) ∙ ap (λ n. access.Read (config.other_start + (address / 4 + n))) (grind (arith, common_steps))

abbrev word_of_read : Access → ℕ
word_of_read (access.Read word) = word
word_of_read _ = 0

pub reads_on : (rx : Receiver) (config : EndConfig) (end : End) (place : laws.Place) (word more entry address bytes at count : ℕ) → rx.place ≡ ReadingFrameWord more entry address bytes at → count ≡ words_for bytes - at →
    RefinesAt rx config end place → laws.access_at config place ≡ access.Read word → ReadsBurst config place word count
reads_on rx config end place word more entry address bytes at count at_word count_is refines first values few =
    let here : place ≡ laws.ReadingFrameWord end.returned more entry address bytes refines.read (words_for bytes - (at + 1)) = refines.place_is ∙ ap (place_view end.returned refines.read) at_word in
    let word_is : config.other_start + (address / 4 + length refines.read) ≡ word = ap word_of_read (sym (ap (laws.access_at config) here) ∙ first) in
    let enough : length values ≤ words_for bytes - (at + 1) = omega (arith, few, count_is) in
    ap (λ p. laws.access_at config (place_after config p values)) here ∙ reads config _ more entry address bytes refines.read _ values enough ∙ ap access.Read (omega (arith, word_is))

-- The receiver after one more word before the last.
abbrev pub after_word : Receiver → (more entry address bytes at value : ℕ) → Receiver
after_word old more entry address bytes at value = record old { place = ReadingFrameWord more entry address bytes (at + 1); gathered = old.gathered ++ word_bytes value }

goes_one : (old : Receiver) (more entry address bytes at value : ℕ) → old.place ≡ ReadingFrameWord more entry address bytes at → 4 < bytes - 4 * at → StaysOpen old value [] (after_word old more entry address bytes at value)
goes_one old more entry address bytes at value at_word some = (
  λ config end place refines.
      let whole : take (bytes - 4 * at) (word_bytes value) ≡ word_bytes value = take_all _ _ (omega arith) in
      word_goes old (after_word old more entry address bytes at value) [] config end place more entry address bytes at value at_word refl (ap (λ b. old.gathered ++ b) (sym whole)) refl some refines,
  refl,
)

-- Reads of words before the last word.
pub words_go : (old new : Receiver) (notes : List Note) (more entry address bytes at : ℕ) (values : List ℕ) → old.place ≡ ReadingFrameWord more entry address bytes at → 0 < length values → 4 * (at + length values) < bytes →
    new ≡ record old { place = ReadingFrameWord more entry address bytes (at + length values); gathered = old.gathered ++ flat_map word_bytes values } → notes ≡ [] → StepsThrough StaysOpen old values notes new
words_go old new notes more entry address bytes at [] at_word some within new_is none = absurd (omega (arith, some))
words_go old new notes more entry address bytes at (value ∷ []) at_word some within new_is none =
    let one : new ≡ after_word old more entry address bytes at value = new_is in
    subst (λ n. StaysOpen old value n new) (sym none) (subst (λ n. StaysOpen old value [] n) (sym one) (goes_one old more entry address bytes at value at_word (omega arith)))
words_go old new notes more entry address bytes at (value ∷ next ∷ values) at_word some within new_is none =
    let between = after_word old more entry address bytes at value in
    let count : at + length (value ∷ next ∷ values) ≡ at + 1 + length (next ∷ values) = omega arith in
    let bytes_are : old.gathered ++ flat_map word_bytes (value ∷ next ∷ values) ≡ old.gathered ++ word_bytes value ++ flat_map word_bytes (next ∷ values) = sym (append_assoc old.gathered (word_bytes value) _) in
    let new_after : new ≡ record between { place = ReadingFrameWord more entry address bytes (at + 1 + length (next ∷ values)); gathered = between.gathered ++ flat_map word_bytes (next ∷ values) } =
    new_is ∙ ap (λ n. record old { place = ReadingFrameWord more entry address bytes n; gathered = old.gathered ++ flat_map word_bytes (value ∷ next ∷ values) }) count
    ∙ ap (λ g. record old { place = ReadingFrameWord more entry address bytes (at + 1 + length (next ∷ values)); gathered = g }) bytes_are in
    (between, goes_one old more entry address bytes at value at_word (omega arith), words_go between new notes more entry address bytes (at + 1) (next ∷ values) refl (omega arith) (omega (arith, within)) new_after none)

-- Reads of words up to the last word.
pub words_deliver : (old new : Receiver) (notes : List Note) (more entry address bytes at : ℕ) (values : List ℕ) → old.place ≡ ReadingFrameWord more entry address bytes at → 0 < length values →
    bytes ≤ 4 * (at + length values) → 4 * (at + length values) < bytes + 4 →
    new ≡ record old { place = WritingUsedId more entry; frame = old.gathered ++ take (bytes - 4 * at) (flat_map word_bytes values); gathered = [] } → notes ≡ note.Deliver ∷ [] → StepsThrough StaysOpen old values notes new
words_deliver old new notes more entry address bytes at [] at_word some enough last new_is notes_are = absurd (omega (arith, some))
words_deliver old new notes more entry address bytes at (value ∷ []) at_word some enough last new_is notes_are = (
  λ config end place refines.
      word_delivers old new notes config end place more entry address bytes at value at_word (new_is ∙ ap (λ f. record old { place = WritingUsedId more entry; frame = f; gathered = [] }) (sym (ap (λ r. r.frame) new_is))) (ap (λ r. r.frame) new_is) notes_are (omega (arith, last)) (omega (arith, enough)) refines,
  ap (λ r. is_busy r) new_is,
)
words_deliver old new notes more entry address bytes at (value ∷ next ∷ values) at_word some enough last new_is notes_are =
    let between = after_word old more entry address bytes at value in
    let left : bytes - 4 * at ≡ suc (suc (suc (suc (bytes - 4 * (at + 1))))) = omega (arith, last, enough) in
    let split : take (bytes - 4 * at) (flat_map word_bytes (value ∷ next ∷ values)) ≡ word_bytes value ++ take (bytes - 4 * (at + 1)) (flat_map word_bytes (next ∷ values)) =
    ap (λ n. take n (flat_map word_bytes (value ∷ next ∷ values))) left in
    let frame_is : old.gathered ++ take (bytes - 4 * at) (flat_map word_bytes (value ∷ next ∷ values)) ≡ between.gathered ++ take (bytes - 4 * (at + 1)) (flat_map word_bytes (next ∷ values)) =
    ap (λ b. old.gathered ++ b) split ∙ sym (append_assoc old.gathered (word_bytes value) _) in
    let new_after : new ≡ record between { place = WritingUsedId more entry; frame = between.gathered ++ take (bytes - 4 * (at + 1)) (flat_map word_bytes (next ∷ values)); gathered = [] } =
    new_is ∙ ap (λ f. record old { place = WritingUsedId more entry; frame = f; gathered = [] }) frame_is in
    (between, goes_one old more entry address bytes at value at_word (omega (arith, last, enough)), words_deliver between new notes more entry address bytes (at + 1) (next ∷ values) refl (omega arith) (omega (arith, enough)) (omega (arith, last)) new_after notes_are)

open_seen : (number : ℕ) (read : List ℕ) (p : Place) → is_open_at p ≡ laws.is_open (place_view number read p)
open_seen number read Closed = refl
open_seen number read (ReadingAvailIndex last) = refl
open_seen number read WritingAvailEvent = refl
open_seen number read (ReadingAvailEntry more) = refl
open_seen number read (ReadingDescAddressLow more entry) = refl
open_seen number read (ReadingDescAddressHigh more entry low) = refl
open_seen number read (ReadingDescLength more entry address) = refl
open_seen number read (ReadingDescFlags more entry address bytes) = refl
open_seen number read (ReadingFrameWord more entry address bytes at) = refl
open_seen number read (WritingUsedId more entry) = refl
open_seen number read (WritingUsedLength more) = refl
open_seen number read (WritingUsedIndex more) = refl
open_seen number read Ringing = refl
open_seen number read Refusing = refl

-- A receiver is busy exactly if the place that it refines is open.
pub busy_is : (rx : Receiver) (config : EndConfig) (end : End) (place : laws.Place) → RefinesAt rx config end place → is_busy rx ≡ laws.is_open place
busy_is rx config end place refines = open_seen end.returned refines.read rx.place ∙ ap laws.is_open (sym refines.place_is)

-- The writes of the used element.

gives_id : (old : Receiver) (more entry value : ℕ) → old.place ≡ WritingUsedId more entry → StaysOpen old value [] (record old { place = WritingUsedLength more })
gives_id old more entry value at = (λ config end place refines. grind (arith, common_steps), refl)

gives_length : (old : Receiver) (more value : ℕ) → old.place ≡ WritingUsedLength more → StaysOpen old value [] (record old { place = WritingUsedIndex more })
gives_length old more value at = (λ config end place refines. grind (arith, common_steps), refl)

pub gives : (old : Receiver) (more entry count : ℕ) (values : List ℕ) → old.place ≡ WritingUsedId more entry → 0 < count → count ≤ 2 → length values ≡ count → StepsThrough StaysOpen old values [] (record old { place = given more count })
gives old more entry count [] at some few sized = absurd (omega (arith, some, sized))
gives old more entry count (a ∷ []) at some few sized = subst (λ n. StepsThrough StaysOpen old (a ∷ []) [] (record old { place = given more n })) sized (gives_id old more entry a at)
gives old more entry count (a ∷ b ∷ []) at some few sized =
    subst (λ n. StepsThrough StaysOpen old (a ∷ b ∷ []) [] (record old { place = given more n })) sized
    (record old { place = WritingUsedLength more }, gives_id old more entry a at, gives_length (record old { place = WritingUsedLength more }) more b refl)
gives old more entry count (a ∷ b ∷ c ∷ values) at some few sized = absurd (omega (arith, few, sized))

abbrev word_of_write : Access → ℕ
word_of_write (access.Write word value) = word
word_of_write _ = 0

given_word : (config : EndConfig) (number more entry word n : ℕ) (values : List ℕ) → entry < 4294967296 → n ≤ 8 → n % 4 ≡ 0 → 4 * length values < n →
    config.own + word_offset config.sizes (UsedId (avail_entry_of config number)) ≡ word →
    laws.access_at config (place_after config (laws.WritingUsedId number more entry) values) ≡ access.Write (word + length values) (word_of (take 4 (drop (4 * length values) (take n (word_bytes entry ++ word_bytes 1)))))
given_word config number more entry word n [] fits few whole fit word_is =
    let spelt : word_of (take 4 (drop 0 (take n (word_bytes entry ++ word_bytes 1)))) ≡ entry = ap word_of (front_word (word_bytes entry ++ word_bytes 1) n 0 (omega (arith, fit, whole))) ∙ word_again entry fits in
    let at : word + length {A = ℕ} [] ≡ config.own + word_offset config.sizes (UsedId (avail_entry_of config number)) = omega (arith, word_is) in
    sym (ap (λ w. access.Write w (word_of (take 4 (drop 0 (take n (word_bytes entry ++ word_bytes 1)))))) at ∙ ap (access.Write (config.own + word_offset config.sizes (UsedId (avail_entry_of config number)))) spelt)
given_word config number more entry word n (a ∷ []) fits few whole fit word_is =
    let spelt : word_of (take 4 (drop 4 (take n (word_bytes entry ++ word_bytes 1)))) ≡ 1 = ap word_of (front_word (word_bytes entry ++ word_bytes 1) n 4 (omega (arith, fit, whole))) in
    let at : word + 1 ≡ config.own + word_offset config.sizes (UsedLength (avail_entry_of config number)) = omega (arith, word_is) in
    sym (ap (λ w. access.Write w (word_of (take 4 (drop 4 (take n (word_bytes entry ++ word_bytes 1)))))) at ∙ ap (access.Write (config.own + word_offset config.sizes (UsedLength (avail_entry_of config number)))) spelt)
given_word config number more entry word n (a ∷ b ∷ values) fits few whole fit word_is = absurd (omega (arith, fit, few))

pub gives_on : (rx : Receiver) (config : EndConfig) (end : End) (place : laws.Place) (word value more entry n : ℕ) → rx.place ≡ WritingUsedId more entry → entry < 4294967296 → n ≤ 8 → n % 4 ≡ 0 →
    RefinesAt rx config end place → laws.access_at config place ≡ access.Write word value → WritesBurst config place word (take n (word_bytes entry ++ word_bytes 1))
gives_on rx config end place word value more entry n at fits few whole refines first values within =
    let here : place ≡ laws.WritingUsedId end.returned more entry = refines.place_is ∙ ap (place_view end.returned refines.read) at in
    let word_is : config.own + word_offset config.sizes (UsedId (avail_entry_of config end.returned)) ≡ word = ap word_of_write (sym (ap (laws.access_at config) here) ∙ first) in
    let fit : 4 * length values < n = omega (arith, within, length-take n (word_bytes entry ++ word_bytes 1)) in
    ap (λ p. laws.access_at config (place_after config p values)) here ∙ given_word config end.returned more entry word n values fits few whole fit word_is
