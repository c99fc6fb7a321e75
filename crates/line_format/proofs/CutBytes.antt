-- Cutting bytes at each byte c.
use Rattle.std.proofs.Common.{◌≡◌, ℕ, suc, ◌+◌, ◌<◌, ◌≤◌, Bool, true, false, eqb, List, [], ◌∷◌, ◌++◌, length, get_or, take, drop, refl, sym, ap, ◌∙◌, drop-cons, arith}
use Rattle.std.proofs.lemmas.List.{take-append-drop, length-append, length-take, get_or-take, get_or_default}
use Rattle.std.proofs.lemmas.List.Splits.{slice_split_at, slice_split_none, length-slice_split}
use Rattle.line_format.specs.Forms.{cuts}

no_test : (b : Bool) → (b ≡ true → ⊥) → b ≡ false
no_test true never = absurd (never refl)
no_test false never = refl

pub cut_none : (c : ℕ) (bytes : List ℕ) → ((k : ℕ) → 0 ≤ k → k < length bytes → eqb (get_or bytes k 0) c ≡ true → ⊥) → cuts c bytes ≡ bytes ∷ []
cut_none c bytes never = slice_split_none (λ b. eqb b c) bytes (λ k d lt. rw (get_or_default bytes k d 0 lt) (no_test _ (never k (omega arith) lt)))

pub cut_at : (c : ℕ) (bytes : List ℕ) (i : ℕ) → i < length bytes → eqb (get_or bytes i 0) c ≡ true
    → ((k : ℕ) → 0 ≤ k → k < i → eqb (get_or bytes k 0) c ≡ true → ⊥)
    → cuts c bytes ≡ take i bytes ∷ cuts c (drop 1 (drop i bytes))
cut_at c bytes i lt here before =
    let tail : drop i bytes ≡ get_or bytes i 0 ∷ drop (suc i) bytes = drop-cons bytes i 0 lt in
    let parts : take i bytes ++ (get_or bytes i 0 ∷ drop (suc i) bytes) ≡ bytes = ap (λ (t : List ℕ). take i bytes ++ t) (sym tail) ∙ take-append-drop i bytes in
    let front : (k : ℕ) (d : ℕ) → k < length (take i bytes) → eqb (get_or (take i bytes) k d) c ≡ false = λ k d few.
    let low : k < i = omega (arith, length-take i bytes) in
    let far : k < length bytes = omega (arith, length-take i bytes) in
    rw (get_or-take i bytes k d low, get_or_default bytes k d 0 far) (no_test _ (before k (omega arith) low)) in
    ap (cuts c) (sym parts) ∙ slice_split_at (λ b. eqb b c) (take i bytes) (get_or bytes i 0) (drop (suc i) bytes) front here ∙ ap (λ (t : List ℕ). take i bytes ∷ cuts c (drop 1 t)) (sym tail)

-- A piece comes after the last cut.
pub more_than : (c : ℕ) (before : List (List ℕ)) (rest piece more bytes : List ℕ) (n : ℕ) → before ++ cuts c rest ≡ cuts c bytes → cuts c rest ≡ piece ∷ cuts c more → n ≤ length before → n + 1 < length (cuts c bytes)
more_than c before rest piece more bytes n draft_view next le =
    let all : length before + length (cuts c rest) ≡ length (cuts c bytes) = sym (length-append before (cuts c rest)) ∙ ap length draft_view in
    let two : length (cuts c rest) ≡ suc (length (cuts c more)) = ap length next in
    omega (arith, length-slice_split (λ b. eqb b c) more)
