-- The words of bytes.
use Rattle.std.proofs.Common.{◌≡◌, ℕ, suc, ◌+◌, ◌-◌, ◌*◌, ◌/◌, ◌%◌, ◌<◌, ◌≤◌, List, [], ◌∷◌, ◌++◌, length, take, drop, min, slice_index, inl, inr, refl, ap, sym, ◌∙◌, arith}
use Rattle.std.proofs.lemmas.Bool.{cases_lt}
use Rattle.std.proofs.lemmas.List.{drop-take, take-take, take_all, length-take}
use Rattle.std.specs.List.{flat_map}
use Rattle.ivs_base.specs.Numbers.{word_of}
use Rattle.call_grammar.specs.Words.{words_for, word_bytes}

-- Four bytes are the bytes of a word.
four : (a b c d : ℕ) → a < 256 → b < 256 → c < 256 → d < 256 → a ∷ b ∷ c ∷ d ∷ [] ≡ word_bytes (a + 256 * b + 65536 * c + 16777216 * d)
four a b c d a_fits b_fits c_fits d_fits =
    let word = a + 256 * b + 65536 * c + 16777216 * d in
    let first : a ≡ word % 256 = omega (arith, a_fits) in
    let second : b ≡ word / 256 % 256 = omega (arith, a_fits, b_fits) in
    let third : c ≡ word / 65536 % 256 = omega (arith, a_fits, b_fits, c_fits) in
    let fourth : d ≡ word / 16777216 % 256 = omega (arith, a_fits, b_fits, c_fits, d_fits) in
    ap (λ n. n ∷ b ∷ c ∷ d ∷ []) first ∙ ap (λ n. word % 256 ∷ n ∷ c ∷ d ∷ []) second ∙ ap (λ n. word % 256 ∷ word / 256 % 256 ∷ n ∷ d ∷ []) third ∙ ap (λ n. word % 256 ∷ word / 256 % 256 ∷ word / 65536 % 256 ∷ n ∷ []) fourth

-- Bytes in whole words are the bytes of a list of words.
pub spelled : (bytes : List ℕ) → length bytes % 4 ≡ 0 → ((i : ℕ) → slice_index bytes i < 256) → (values : List ℕ) × (bytes ≡ flat_map word_bytes values)
spelled [] whole fit = ([], refl)
spelled (a ∷ []) whole fit = absurd (omega (arith, whole))
spelled (a ∷ b ∷ []) whole fit = absurd (omega (arith, whole))
spelled (a ∷ b ∷ c ∷ []) whole fit = absurd (omega (arith, whole))
spelled (a ∷ b ∷ c ∷ d ∷ bytes) whole fit =
    let rest = spelled bytes (omega (arith, whole)) (λ i. fit (suc (suc (suc (suc i))))) in
    let word = a + 256 * b + 65536 * c + 16777216 * d in
    (word ∷ rest.0, ap (λ l. a ∷ b ∷ c ∷ d ∷ l) rest.1 ∙ ap (λ l. l ++ flat_map word_bytes rest.0) (four a b c d (fit 0) (fit 1) (fit 2) (fit 3)))

-- The word of the four bytes of a word.
pub word_again : (word : ℕ) → word < 4294967296 → word_of (word_bytes word) ≡ word
word_again word fits = omega (arith, fits)

-- A word of the first n bytes is the same word of all bytes.
pub front_word : (bytes : List ℕ) (n start : ℕ) → start + 4 ≤ n → take 4 (drop start (take n bytes)) ≡ take 4 (drop start bytes)
front_word bytes n start within =
    let m = n - start in
    let whole : n ≡ start + m = omega arith in
    ap (λ k. take 4 (drop start (take k bytes))) whole ∙ ap (take 4) (drop-take start m bytes) ∙ take-take 4 m (drop start bytes) (omega arith)

-- The first four of the first `m` bytes.
four_of : (bytes : List ℕ) (m : ℕ) → take (min m 4) bytes ≡ take 4 (take m bytes)
four_of bytes m =
    elim (cases_lt m 4) [
      | inl few ↦
          let all : min m 4 ≡ m = omega arith in
          ap (λ n. take n bytes) all ∙ sym (take_all 4 (take m bytes) (omega (arith, length-take m bytes)))
      | inr many ↦
          let four : min m 4 ≡ 4 = omega arith in
          ap (λ n. take n bytes) four ∙ sym (take-take 4 m bytes many)
    ]

-- The bytes of word `at` of a frame, in bytes of which the first `size` are the frame. At the
-- frame's end they are fewer than four.
pub bytes_at : (bytes frame : List ℕ) (size at : ℕ) → take size bytes ≡ frame → at < words_for (length frame) →
    take (min size (4 * at + 4) - 4 * at) (drop (4 * at) bytes) ≡ take 4 (drop (4 * at) frame)
bytes_at bytes frame size at frame_is within =
    let start = 4 * at in
    let m = size - start in
    let sized = length-take size bytes in
    let begun : start ≤ size = omega (arith, ap length frame_is) in
    let whole : start + m ≡ size = omega arith in
    let part : min size (start + 4) - start ≡ min m 4 = omega arith in
    ap (λ n. take n (drop start bytes)) part
    ∙ (four_of (drop start bytes) m ∙ ap (take 4) (sym (drop-take start m bytes) ∙ ap (λ n. drop start (take n bytes)) whole ∙ ap (drop start) frame_is))
