-- The bytes of a frame whose words are in a slot.
use Rattle.std.proofs.Common.{◌≡◌, ℕ, suc, ◌+◌, ◌*◌, ◌/◌, ◌%◌, ◌^◌, ◌<◌, List, [], ◌∷◌, length, take, drop, refl, ap, ◌∙◌, arith, All}
use Rattle.ivs_base.specs.Numbers.{word_of}
use Rattle.split_ring.specs.Spelling.{byte_at, bytes_from}
use Rattle.call_grammar.specs.Words.{words_for, frame_word}
use Rattle.call_grammar.proofs.BytesOfWords.{IsByte}
use Rattle.link_invariant.proofs.Frames.{byte_head, byte_tail}

-- A byte of a word, at an offset by words and bytes.
byte_of : (words : ℕ → ℕ) (place at rest : ℕ) → place ≡ 4 * at + rest → rest < 4 → byte_at words place ≡ words at / 256 ^ rest % 256
byte_of words place at rest is small =
    let e : place / 4 ≡ at = omega arith in let f : place % 4 ≡ rest = omega arith in
    ap (λ k. words k / 256 ^ (place % 4) % 256) e ∙ ap (λ k. words at / 256 ^ k % 256) f

-- The bytes of a word of four bytes.
byte_0 : (a w : ℕ) → a < 256 → w % 256 ≡ a → w / 256 ^ 0 % 256 ≡ a
byte_0 a w x e = omega arith

word_parts : (a b c d w : ℕ) → a < 256 → b < 256 → c < 256 → d < 256 → w ≡ a + 256 * (b + 256 * (c + 256 * (d + 256 * 0))) → (w / 256 ^ 0 % 256 ≡ a) × (w / 256 ^ 1 % 256 ≡ b) × (w / 256 ^ 2 % 256 ≡ c) × (w / 256 ^ 3 % 256 ≡ d)
word_parts a b c d w x y z u e = (omega arith, omega arith, omega arith, omega arith)

-- The words of the rest of a frame.
abbrev HasFrame : (ℕ → ℕ) → ℕ → List ℕ → Type 0
HasFrame words at frame = (j : ℕ) → j < words_for (length frame) → words (at + j) ≡ frame_word frame j

rest_words : (words : ℕ → ℕ) (at a b c d : ℕ) (rest : List ℕ) → HasFrame words at (a ∷ (b ∷ (c ∷ (d ∷ rest)))) → HasFrame words (at + 1) rest
rest_words words at a b c d rest has j low =
    let g = a ∷ (b ∷ (c ∷ (d ∷ rest))) in
    let next : frame_word g (suc j) ≡ frame_word rest j = ap (λ k. word_of (take 4 (drop k g))) (let e : 4 * suc j ≡ suc (suc (suc (suc (4 * j)))) = omega arith in e) in
    let there : (at + 1) + j ≡ at + suc j = omega arith in
    ap words there ∙ (has (suc j) (omega arith) ∙ next)

first_word : (words : ℕ → ℕ) (at : ℕ) (frame : List ℕ) → 0 < length frame → HasFrame words at frame → words at ≡ frame_word frame 0
first_word words at frame some has = let here : at ≡ at + 0 = omega arith in ap words here ∙ has 0 (omega arith)

pub frame_is_bytes : (words : ℕ → ℕ) (place at : ℕ) (frame : List ℕ) → place ≡ 4 * at → HasFrame words at frame → All IsByte frame → frame ≡ bytes_from words place (length frame)
frame_is_bytes words place at [] is has all = refl
frame_is_bytes words place at (a ∷ []) is has all =
    let x = byte_head a [] all in
    let w = first_word words at (a ∷ []) (omega arith) has in
    let p = word_parts a 0 0 0 (words at) x (omega arith) (omega arith) (omega arith) (w ∙ omega arith) in
    let e = byte_of words place at 0 (omega arith) (omega arith) ∙ p.0 in cc
frame_is_bytes words place at (a ∷ (b ∷ [])) is has all =
    let x = byte_head a (b ∷ []) all in let t = byte_tail a (b ∷ []) all in let y = byte_head b [] t in
    let w = first_word words at (a ∷ (b ∷ [])) (omega arith) has in
    let p = word_parts a b 0 0 (words at) x y (omega arith) (omega arith) (w ∙ omega arith) in
    let e = byte_of words place at 0 (omega arith) (omega arith) ∙ p.0 in
    let f = byte_of words (place + 1) at 1 (omega arith) (omega arith) ∙ p.1 in cc
frame_is_bytes words place at (a ∷ (b ∷ (c ∷ []))) is has all =
    let x = byte_head a (b ∷ (c ∷ [])) all in let t = byte_tail a (b ∷ (c ∷ [])) all in let y = byte_head b (c ∷ []) t in let u = byte_tail b (c ∷ []) t in let z = byte_head c [] u in
    let w = first_word words at (a ∷ (b ∷ (c ∷ []))) (omega arith) has in
    let p = word_parts a b c 0 (words at) x y z (omega arith) (w ∙ omega arith) in
    let e = byte_of words place at 0 (omega arith) (omega arith) ∙ p.0 in
    let f = byte_of words (place + 1) at 1 (omega arith) (omega arith) ∙ p.1 in
    let g = byte_of words (place + 1 + 1) at 2 (omega arith) (omega arith) ∙ p.2 in cc
frame_is_bytes words place at (a ∷ (b ∷ (c ∷ (d ∷ rest)))) is has all =
    let x = byte_head a (b ∷ (c ∷ (d ∷ rest))) all in let t = byte_tail a (b ∷ (c ∷ (d ∷ rest))) all in let y = byte_head b (c ∷ (d ∷ rest)) t in let u = byte_tail b (c ∷ (d ∷ rest)) t in
    let z = byte_head c (d ∷ rest) u in let v = byte_tail c (d ∷ rest) u in let r = byte_head d rest v in let others = byte_tail d rest v in
    let w = first_word words at (a ∷ (b ∷ (c ∷ (d ∷ rest)))) (omega arith) has in
    let p = word_parts a b c d (words at) x y z r w in
    let e = byte_of words place at 0 (omega arith) (omega arith) ∙ p.0 in
    let f = byte_of words (place + 1) at 1 (omega arith) (omega arith) ∙ p.1 in
    let g = byte_of words (place + 1 + 1) at 2 (omega arith) (omega arith) ∙ p.2 in
    let h = byte_of words (place + 1 + 1 + 1) at 3 (omega arith) (omega arith) ∙ p.3 in
    let later = frame_is_bytes words (place + 1 + 1 + 1 + 1) (at + 1) rest (omega arith) (rest_words words at a b c d rest has) others in cc
