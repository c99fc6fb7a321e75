-- A frame as words, and its bytes again.
use Rattle.std.proofs.Common.{◌≡◌, ℕ, zero, suc, ◌+◌, ◌*◌, ◌/◌, ◌%◌, ◌<◌, ◌≤◌, List, [], ◌∷◌, ◌++◌, length, take, drop, refl, ap, ◌∙◌, arith, All}
use Rattle.std.specs.Prelude.{flat_map}
use Rattle.std.proofs.lemmas.List.Elements.{All-head, All-tail}
use Rattle.ivs_base.specs.Numbers.{word_of}
use Rattle.call_grammar.specs.Words.{word_bytes, words_for, frame_word}
use Rattle.call_grammar.proofs.BytesOfWords.{IsByte, byte_0, byte_1, byte_2, byte_3}
use Rattle.link_invariant.specs.LinkConfig.{first_words}
use Rattle.link_invariant.specs.Frames.{FramesComeWhole}

-- The words of a frame, beginning with its first four bytes.
first_split : (a b c d : ℕ) (rest : List ℕ) (count : ℕ) → first_words (a ∷ (b ∷ (c ∷ (d ∷ rest)))) (suc count) ≡ word_of (a ∷ (b ∷ (c ∷ (d ∷ [])))) ∷ first_words rest count
first_split a b c d rest zero = refl
first_split a b c d rest (suc count) = let g = a ∷ (b ∷ (c ∷ (d ∷ rest))) in
    let next : frame_word g (suc count) ≡ frame_word rest count = ap (λ k. word_of (take 4 (drop k g))) (let e : 4 * suc count ≡ suc (suc (suc (suc (4 * count)))) = omega arith in e) in
    ap (λ (l : List ℕ). l ++ frame_word g (suc count) ∷ []) (first_split a b c d rest count) ∙ ap (λ w. word_of (a ∷ (b ∷ (c ∷ (d ∷ [])))) ∷ (first_words rest count ++ w ∷ [])) next

pub byte_head : (x : ℕ) (xs : List ℕ) → All IsByte (x ∷ xs) → IsByte x
byte_head x xs all = All-head IsByte x xs all

pub byte_tail : (x : ℕ) (xs : List ℕ) → All IsByte (x ∷ xs) → All IsByte xs
byte_tail x xs all = All-tail IsByte x xs all

-- The bytes of a shorter word.
short_1 : (a b : ℕ) → IsByte a → IsByte b → (a + 256 * (b + 256 * 0)) / 256 % 256 ≡ b
short_1 a b x y = omega arith

short_2 : (a b c : ℕ) → IsByte a → IsByte b → IsByte c → (a + 256 * (b + 256 * (c + 256 * 0))) / 65536 % 256 ≡ c
short_2 a b c x y z = omega arith

middle_1 : (a b c : ℕ) → IsByte a → IsByte b → (a + 256 * (b + 256 * (c + 256 * 0))) / 256 % 256 ≡ b
middle_1 a b c x y = omega arith

whole : (frame : List ℕ) (count : ℕ) → length frame ≤ 4 * count → 4 * count < length frame + 4 → All IsByte frame → take (length frame) (flat_map word_bytes (first_words frame count)) ≡ frame
whole [] count fits least all = refl
whole (a ∷ []) zero fits least all = absurd (omega arith)
whole (a ∷ []) (suc zero) fits least all = let x = byte_head a [] all in ap (λ n. n ∷ []) (let e : (a + 256 * 0) % 256 ≡ a = omega arith in e)
whole (a ∷ []) (suc (suc count)) fits least all = absurd (omega arith)
whole (a ∷ (b ∷ [])) zero fits least all = absurd (omega arith)
whole (a ∷ (b ∷ [])) (suc zero) fits least all = let x = byte_head a (b ∷ []) all in let t = byte_tail a (b ∷ []) all in let y = byte_head b [] t in
    let e : (a + 256 * (b + 256 * 0)) % 256 ≡ a = omega arith in let f = short_1 a b x y in cc
whole (a ∷ (b ∷ [])) (suc (suc count)) fits least all = absurd (omega arith)
whole (a ∷ (b ∷ (c ∷ []))) zero fits least all = absurd (omega arith)
whole (a ∷ (b ∷ (c ∷ []))) (suc zero) fits least all = let x = byte_head a (b ∷ (c ∷ [])) all in let t = byte_tail a (b ∷ (c ∷ [])) all in let y = byte_head b (c ∷ []) t in let u = byte_tail b (c ∷ []) t in let z = byte_head c [] u in
    let e : (a + 256 * (b + 256 * (c + 256 * 0))) % 256 ≡ a = omega arith in let f = middle_1 a b c x y in let g = short_2 a b c x y z in cc
whole (a ∷ (b ∷ (c ∷ []))) (suc (suc count)) fits least all = absurd (omega arith)
whole (a ∷ (b ∷ (c ∷ (d ∷ rest)))) zero fits least all = absurd (omega arith)
whole (a ∷ (b ∷ (c ∷ (d ∷ rest)))) (suc count) fits least all =
    let x = byte_head a (b ∷ (c ∷ (d ∷ rest))) all in let t = byte_tail a (b ∷ (c ∷ (d ∷ rest))) all in let y = byte_head b (c ∷ (d ∷ rest)) t in let u = byte_tail b (c ∷ (d ∷ rest)) t in let z = byte_head c (d ∷ rest) u in let v = byte_tail c (d ∷ rest) u in
    let w = byte_head d rest v in let others = byte_tail d rest v in let later = whole rest count (omega arith) (omega arith) others in
    let e = byte_0 a b c d x in let f = byte_1 a b c d x y in let g = byte_2 a b c d x y z in let h = byte_3 a b c d x y z w in
    ap (λ (ws : List ℕ). take (suc (suc (suc (suc (length rest))))) (flat_map word_bytes ws)) (first_split a b c d rest count) ∙ cc

pub frames_come_whole : FramesComeWhole
frames_come_whole frame all = whole frame (words_for (length frame)) (omega arith) (omega arith) all
