-- The bytes of an image's words are the bytes of the image.
use Rattle.std.proofs.Common.{◌≡◌, ℕ, zero, suc, ◌+◌, ◌*◌, ◌/◌, ◌%◌, ◌^◌, ◌<◌, ◌≤◌, List, ◌∷◌, length, get_or, take, drop, refl, sym, ap, subst, ◌∙◌, arith}
use mathlib.Core.Logic.{dite}
use native.Mathlib.Decide.{ℕ_discrete}
use Rattle.std.proofs.lemmas.List.{get_or-drop}
use Rattle.std.proofs.Math.Seq.{drop-cons}
use Rattle.split_ring.specs.Spelling.{byte_at, bytes_from}
use Rattle.section_dump.specs.Image.{words_from}

-- Each item of a list of bytes is below 256.
abbrev pub AreBytes : List ℕ → Type 0
AreBytes bytes = (k : ℕ) → get_or bytes k 0 < 256

-- Byte j of the word of four bytes.
byte_of_four : (a b c d w : ℕ) → a < 256 → b < 256 → c < 256 → d < 256 → w ≡ a + 256 * (b + 256 * (c + 256 * (d + 256 * 0)))
    → (w / 1 % 256 ≡ a) × (w / 256 % 256 ≡ b) × (w / 65536 % 256 ≡ c) × (w / 16777216 % 256 ≡ d)
byte_of_four a b c d w la lb lc ld e = (omega arith, omega arith, omega arith, omega arith)

four : (image : List ℕ) (m : ℕ) (w : ℕ) → AreBytes image
    → w ≡ get_or (drop m image) 0 0 + 256 * (get_or (drop m image) 1 0 + 256 * (get_or (drop m image) 2 0 + 256 * (get_or (drop m image) 3 0 + 256 * 0)))
    → (w / 1 % 256 ≡ get_or image (m + 0) 0) × (w / 256 % 256 ≡ get_or image (m + 1) 0) × (w / 65536 % 256 ≡ get_or image (m + 2) 0) × (w / 16777216 % 256 ≡ get_or image (m + 3) 0)
four image m w small e =
    let e0 = get_or-drop m image 0 0 in let e1 = get_or-drop m image 1 0 in
    let e2 = get_or-drop m image 2 0 in let e3 = get_or-drop m image 3 0 in
    byte_of_four _ _ _ _ w (small (m + 0)) (small (m + 1)) (small (m + 2)) (small (m + 3)) (e ∙ (omega arith))

at_rest : (image : List ℕ) (place rest m w : ℕ) → rest < 4 → place ≡ m + rest
    → (w / 1 % 256 ≡ get_or image (m + 0) 0) × (w / 256 % 256 ≡ get_or image (m + 1) 0) × (w / 65536 % 256 ≡ get_or image (m + 2) 0) × (w / 16777216 % 256 ≡ get_or image (m + 3) 0)
    → w / 256 ^ rest % 256 ≡ get_or image place 0
at_rest image place rest m w lt e h =
    let there : w / 256 ^ rest % 256 ≡ get_or image (m + rest) 0 =
    dite (ℕ_discrete rest 0) (λ r. subst (λ n. w / 256 ^ n % 256 ≡ get_or image (m + n) 0) (sym r) h.0)
    (λ n0. dite (ℕ_discrete rest 1) (λ r. subst (λ n. w / 256 ^ n % 256 ≡ get_or image (m + n) 0) (sym r) h.1)
    (λ n1. dite (ℕ_discrete rest 2) (λ r. subst (λ n. w / 256 ^ n % 256 ≡ get_or image (m + n) 0) (sym r) h.2)
    (λ n2. let r : rest ≡ 3 = omega arith in subst (λ n. w / 256 ^ n % 256 ≡ get_or image (m + n) 0) (sym r) h.3))) in
    there ∙ ap (λ i. get_or image i 0) (sym e)

-- The byte at an offset of a section is that of the image.
pub byte_in : (image : List ℕ) (first place : ℕ) → AreBytes image → byte_at (words_from image first) place ≡ get_or image (4 * first + place) 0
byte_in image first place small =
    at_rest image (4 * first + place) (place % 4) (4 * (first + place / 4)) (words_from image first (place / 4)) (omega arith) (omega arith)
    (four image (4 * (first + place / 4)) (words_from image first (place / 4)) small refl)

-- `count` bytes of a section are those of the image.
pub bytes_in : (image : List ℕ) (first place count : ℕ) → AreBytes image → 4 * first + place + count ≤ length image
    → take count (drop (4 * first + place) image) ≡ bytes_from (words_from image first) place count
bytes_in image first place zero small room = refl
bytes_in image first place (suc count) small room =
    let here = byte_in image first place small in
    let next : 4 * first + (place + 1) ≡ suc (4 * first + place) = omega arith in
    let more = bytes_in image first (place + 1) count small (omega arith) in
    rw (drop-cons image (4 * first + place) 0 (omega arith))
    (ap (λ b. b ∷ take count (drop (suc (4 * first + place)) image)) (sym here)
    ∙ ap (λ bs. byte_at (words_from image first) place ∷ bs) (subst (λ m. take count (drop m image) ≡ bytes_from (words_from image first) (place + 1) count) next more))
