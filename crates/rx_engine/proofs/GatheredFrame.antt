-- The words read of a frame, and the frame's bytes.
use Rattle.std.proofs.Common.{◌≡◌, ℕ, ◌+◌, ◌-◌, ◌*◌, ◌≤◌, List, [], ◌∷◌, ◌++◌, length, take, refl, sym, ap, ◌∙◌, arith}
use Rattle.std.proofs.Math.Seq.{take-append-add}
use Rattle.std.proofs.lemmas.Grind.{flat_map-append}
use Rattle.std.specs.List.{flat_map}
use Rattle.call_grammar.specs.Words.{word_bytes, frame_in}

-- Each word has four bytes.
pub length-words : (read : List ℕ) → length (flat_map word_bytes read) ≡ 4 * length read
length-words [] = refl
length-words (word ∷ words) = omega (arith, length-words words)

-- The bytes after one more word.
pub words_more : (read : List ℕ) (value : ℕ) → flat_map word_bytes (read ++ value ∷ []) ≡ flat_map word_bytes read ++ word_bytes value
words_more read value = flat_map-append word_bytes read (value ∷ [])

-- The bytes of the words read and the first bytes of one more word are the first bytes of all
-- words.
pub frame_more : (bytes at value : ℕ) (read : List ℕ) → length read ≡ at → 4 * at ≤ bytes →
    flat_map word_bytes read ++ take (bytes - 4 * at) (word_bytes value) ≡ frame_in bytes (read ++ value ∷ [])
frame_more bytes at value read count some =
    let front = flat_map word_bytes read in
    let length_is : length front + (bytes - 4 * at) ≡ bytes = omega (arith, length-words read) in
    sym (take-append-add front (word_bytes value) (bytes - 4 * at)) ∙
    ap (λ n. take n (front ++ word_bytes value)) length_is ∙
    ap (take bytes) (sym (words_more read value))
