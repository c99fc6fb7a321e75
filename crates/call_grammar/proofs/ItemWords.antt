-- The values that an item reads, as words of a section.
use Rattle.std.proofs.Common.{◌≡◌, ℕ, zero, suc, ◌+◌, ◌-◌, ◌*◌, ◌/◌, ◌%◌, ◌^◌, ◌<◌, List, [], ◌∷◌, ◌++◌, length, take, refl, sym, ap, ◌∙◌, arith}
use Rattle.std.specs.List.{flat_map}
use Rattle.split_ring.specs.Layout.{word_offset, DescAddress, DescLength, DescFlags, AvailEntry}
use Rattle.split_ring.specs.Spelling.{entry_half, byte_at, bytes_from, address_at}
use Rattle.call_grammar.specs.Steps.{Mark, Deliver, Step}
use Rattle.call_grammar.specs.Ticks.{EndConfig}
use Rattle.call_grammar.specs.Words.{word_bytes, words_for, frame_in}
use Rattle.call_grammar.specs.Offers.{avail_entry_of}
use Rattle.call_grammar.specs.Polls.{item_entry, item_address, word_steps, return_steps}
use Rattle.call_grammar.specs.ItemSpelling.{AllMatchWords, ReadItemsAreSpelled}

-- The value read of the word at offset `place` of the section is the section's word.
pub there : (words : ℕ → ℕ) (other_start place value : ℕ) → value ≡ words (other_start + place - other_start) → words place ≡ value
there words other_start place value met = let e : other_start + place - other_start ≡ place = omega arith in sym (met ∙ ap words e)

-- A byte of a word, at an offset by words and bytes.
byte_of : (words : ℕ → ℕ) (place at rest word : ℕ) → words at ≡ word → place ≡ 4 * at + rest → rest < 4 → byte_at words place ≡ word / 256 ^ rest % 256
byte_of words place at rest word holds is small =
    let e : place / 4 ≡ at = omega arith in
    let f : place % 4 ≡ rest = omega arith in
    ap (λ k. words k / 256 ^ (place % 4) % 256) e ∙ (ap (λ k. words at / 256 ^ k % 256) f ∙ ap (λ w. w / 256 ^ rest % 256) holds)

byte_0 : (words : ℕ → ℕ) (place at word : ℕ) → words at ≡ word → place ≡ 4 * at → byte_at words place ≡ word % 256
byte_0 words place at word holds is = let e = byte_of words place at 0 word holds (omega arith) (omega arith) in omega (arith, e)

byte_1 : (words : ℕ → ℕ) (place at word : ℕ) → words at ≡ word → place ≡ 4 * at + 1 → byte_at words place ≡ word / 256 % 256
byte_1 words place at word holds is = let e = byte_of words place at 1 word holds is (omega arith) in omega (arith, e)

byte_2 : (words : ℕ → ℕ) (place at word : ℕ) → words at ≡ word → place ≡ 4 * at + 2 → byte_at words place ≡ word / 65536 % 256
byte_2 words place at word holds is = let e = byte_of words place at 2 word holds is (omega arith) in omega (arith, e)

byte_3 : (words : ℕ → ℕ) (place at word : ℕ) → words at ≡ word → place ≡ 4 * at + 3 → byte_at words place ≡ word / 16777216 % 256
byte_3 words place at word holds is = let e = byte_of words place at 3 word holds is (omega arith) in omega (arith, e)

-- The bytes of the words read are the bytes of the section.
pub words_spell : (config : EndConfig) (words : ℕ → ℕ) (address at place bytes : ℕ) (read : List ℕ) (marks : List Mark) (tail : List Step) →
    AllMatchWords config words (word_steps config address at read marks ++ tail) → place ≡ 4 * (address / 4 + at) → length read ≡ words_for bytes →
    take bytes (flat_map word_bytes read) ≡ bytes_from words place bytes
words_spell config words address at place zero read marks tail met is count = refl
words_spell config words address at place (suc bytes) [] marks tail met is count = absurd (omega (arith, count))
words_spell config words address at place (suc zero) (word ∷ read) marks tail met is count =
    let holds = there words config.other_start (address / 4 + at) word met.0 in
    ap (λ b. b ∷ []) (sym (byte_0 words place (address / 4 + at) word holds is))
words_spell config words address at place (suc (suc zero)) (word ∷ read) marks tail met is count =
    let holds = there words config.other_start (address / 4 + at) word met.0 in
    let a = byte_0 words place (address / 4 + at) word holds is in
    let b = byte_1 words (place + 1) (address / 4 + at) word holds (omega arith) in
    cc
words_spell config words address at place (suc (suc (suc zero))) (word ∷ read) marks tail met is count =
    let holds = there words config.other_start (address / 4 + at) word met.0 in
    let a = byte_0 words place (address / 4 + at) word holds is in
    let b = byte_1 words (place + 1) (address / 4 + at) word holds (omega arith) in
    let c = byte_2 words (place + 1 + 1) (address / 4 + at) word holds (omega arith) in
    cc
words_spell config words address at place (suc (suc (suc (suc bytes)))) (word ∷ read) marks tail met is count =
    let holds = there words config.other_start (address / 4 + at) word met.0 in
    let a = byte_0 words place (address / 4 + at) word holds is in
    let b = byte_1 words (place + 1) (address / 4 + at) word holds (omega arith) in
    let c = byte_2 words (place + 1 + 1) (address / 4 + at) word holds (omega arith) in
    let d = byte_3 words (place + 1 + 1 + 1) (address / 4 + at) word holds (omega arith) in
    let rest = words_spell config words address (at + 1) (place + 1 + 1 + 1 + 1) bytes read marks tail met.1 (omega arith) (omega (arith, count)) in
    cc

pub spelled : ReadItemsAreSpelled
spelled config number read words good met =
    let e = item_entry config number read in
    let t = config.other_start in
    let entry = there words t (word_offset config.sizes (AvailEntry (avail_entry_of config number))) read.entry_word met.0 in
    let low = there words t (word_offset config.sizes (DescAddress e)) read.low met.1.0 in
    let high = there words t (word_offset config.sizes (DescAddress e) + 1) read.high (met.1.1.0 ∙ ap words (omega arith)) in
    let bytes = there words t (word_offset config.sizes (DescLength e)) read.bytes met.1.1.1.0 in
    let flags = there words t (word_offset config.sizes (DescFlags e)) read.flags_word met.1.1.1.1.0 in
    let a = item_address read in
    let address : address_at config.sizes words e ≡ a = omega (arith, low, high) in
    let even = good.address.0 in
    let frame = words_spell config words a 0 a read.bytes read.words (Deliver (frame_in read.bytes read.words) ∷ []) (return_steps config number e) met.1.1.1.1.1 (omega (arith, even)) good.words in
    record {
      entry_is = ap (entry_half (avail_entry_of config number)) entry;
      entry = good.entry;
      address = rw address good.address;
      length = rw (address, bytes) good.bytes;
      flags = rw flags good.flags;
      bytes = frame ∙ (ap (λ n. bytes_from words n read.bytes) (sym address) ∙ ap (bytes_from words (address_at config.sizes words e)) (sym bytes));
    }
