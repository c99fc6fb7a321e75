-- Words of bytes that are padded with 0.
use Rattle.std.proofs.Common.{◌≡◌, ℕ, zero, suc, ◌+◌, ◌-◌, ◌*◌, ◌≤◌, List, [], ◌∷◌, ◌++◌, length, take, drop, replicate, refl, sym, ap, ◌∙◌, arith}
use Rattle.std.proofs.lemmas.List.{drop-take, take-take, drop-drop, length-append, length-drop, length-replicate}
use Rattle.ivs_base.specs.Numbers.{word_of}
use Rattle.call_grammar.specs.Words.{words_for, frame_word}
use Rattle.tx_engine.specs.Ahead.{last_words}

zeros : (count some : ℕ) → word_of (take count (replicate some 0)) ≡ 0
zeros zero some = refl
zeros (suc count) zero = refl
zeros (suc count) (suc some) = ap (λ n. 0 + 256 * n) (zeros count some)

after_front : (count some : ℕ) (bytes : List ℕ) → word_of (take count (bytes ++ replicate some 0)) ≡ word_of (take count bytes)
after_front zero some bytes = refl
after_front (suc count) some [] = zeros (suc count) some
after_front (suc count) some (byte ∷ bytes) = ap (λ n. byte + 256 * n) (after_front count some bytes)

pub dropped_zeros : (count at some : ℕ) → word_of (take count (drop at (replicate some 0))) ≡ 0
dropped_zeros count zero some = zeros count some
dropped_zeros zero (suc at) zero = refl
dropped_zeros (suc count) (suc at) zero = refl
dropped_zeros count (suc at) (suc some) = dropped_zeros count at some

none_taken : (count at : ℕ) → word_of (take count (drop {A = ℕ} at [])) ≡ 0
none_taken zero at = refl
none_taken (suc count) zero = refl
none_taken (suc count) (suc at) = refl

pub padded : (count at some : ℕ) (bytes : List ℕ) → word_of (take count (drop at (bytes ++ replicate some 0))) ≡ word_of (take count (drop at bytes))
padded count zero some bytes = after_front count some bytes
padded count (suc at) some [] = dropped_zeros count (suc at) some ∙ sym (none_taken count (suc at))
padded count (suc at) some (byte ∷ bytes) = padded count at some bytes

-- A word of the first `n` bytes is the same word of all bytes.
pub first_word : (bytes : List ℕ) (n start : ℕ) → start + 4 ≤ n → take 4 (drop start (take n bytes)) ≡ take 4 (drop start bytes)
first_word bytes n start within =
    let m = n - start in
    let whole : n ≡ start + m = omega arith in
    ap (λ k. take 4 (drop start (take k bytes))) whole ∙ ap (take 4) (drop-take start m bytes) ∙ take-take 4 m (drop start bytes) (omega arith)

-- Word `j` of the bytes from word `at` on, of which `n` are copied and padded with 0.
pub padded_word : (bytes : List ℕ) (n some at j : ℕ) → 4 * j + 4 ≤ n → word_of (take 4 (drop (4 * j) (take n (drop (4 * at) bytes) ++ replicate some 0))) ≡ word_of (take 4 (drop (4 * (at + j)) bytes))
padded_word bytes n some at j within =
    let place : 4 * at + 4 * j ≡ 4 * (at + j) = omega arith in
    padded 4 (4 * j) some (take n (drop (4 * at) bytes)) ∙ ap word_of (first_word (drop (4 * at) bytes) n (4 * j) within)
    ∙ ap (λ b. word_of (take 4 b)) (drop-drop (4 * j) (4 * at) bytes) ∙ ap (λ n. word_of (take 4 (drop n bytes))) place

-- Word `j` of the bytes from word `at` on, padded with 0 after the last byte.
pub padded_tail : (bytes : List ℕ) (some at j : ℕ) → word_of (take 4 (drop (4 * j) (drop (4 * at) (bytes ++ replicate some 0)))) ≡ word_of (take 4 (drop (4 * (at + j)) bytes))
padded_tail bytes some at j =
    let place : 4 * at + 4 * j ≡ 4 * (at + j) = omega arith in
    ap (λ b. word_of (take 4 b)) (drop-drop (4 * j) (4 * at) (bytes ++ replicate some 0)) ∙ ap (λ n. word_of (take 4 (drop n (bytes ++ replicate some 0)))) place
    ∙ padded 4 (4 * (at + j)) some bytes

-- The last words of a frame: their number of bytes, and each word.
pub last_sized : (frame : List ℕ) (count : ℕ) → count ≤ words_for (length frame) → length (last_words frame count) ≡ 4 * count
last_sized frame count few =
    let some = 4 * words_for (length frame) - length frame in
    length-drop (4 * (words_for (length frame) - count)) (frame ++ replicate some 0) ∙ omega (arith, length-append frame (replicate some 0), length-replicate {A = ℕ} some 0, few)

pub last_word : (frame : List ℕ) (at count j : ℕ) → at + count ≡ words_for (length frame) → word_of (take 4 (drop (4 * j) (last_words frame count))) ≡ frame_word frame (at + j)
last_word frame at count j whole =
    let some = 4 * words_for (length frame) - length frame in
    let here : words_for (length frame) - count ≡ at = omega (arith, whole) in
    ap (λ n. word_of (take 4 (drop (4 * j) (drop (4 * n) (frame ++ replicate some 0))))) here ∙ padded_tail frame some at j
