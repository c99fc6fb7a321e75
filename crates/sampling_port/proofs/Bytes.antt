-- The bytes of a message, word by word.
use Rattle.std.proofs.Common.{◌≡◌, ℕ, zero, suc, ◌+◌, ◌-◌, ◌*◌, ◌/◌, ◌%◌, ◌≤◌, List, [], ◌∷◌, ◌++◌, length, take, drop, refl, sym, ap, ◌∙◌, arith}
use Rattle.std.specs.List.{AllByRecursion}
use Rattle.std.proofs.lemmas.List.{length-take, length-drop, take-append-drop}
use Rattle.std.proofs.Math.Seq.{take-append-add}
use Rattle.ivs_base.specs.Numbers.{word_of}
use Rattle.call_grammar.specs.Words.{frame_word, word_bytes}
use Rattle.call_grammar.proofs.BytesOfWords.{IsByte, byte_0, byte_1, byte_2, byte_3}

one_0 : (a : ℕ) → IsByte a → (a + 256 * 0) % 256 ≡ a
one_0 a x = omega arith

two_0 : (a b : ℕ) → IsByte a → (a + 256 * (b + 256 * 0)) % 256 ≡ a
two_0 a b x = omega arith

two_1 : (a b : ℕ) → IsByte a → IsByte b → (a + 256 * (b + 256 * 0)) / 256 % 256 ≡ b
two_1 a b x y = omega arith

three_0 : (a b c : ℕ) → IsByte a → (a + 256 * (b + 256 * (c + 256 * 0))) % 256 ≡ a
three_0 a b c x = omega arith

three_1 : (a b c : ℕ) → IsByte a → IsByte b → (a + 256 * (b + 256 * (c + 256 * 0))) / 256 % 256 ≡ b
three_1 a b c x y = omega arith

three_2 : (a b c : ℕ) → IsByte a → IsByte b → IsByte c → (a + 256 * (b + 256 * (c + 256 * 0))) / 65536 % 256 ≡ c
three_2 a b c x y z = omega arith

take_none : (n : ℕ) → ◌≡◌ {A = List ℕ} (take n []) []
take_none zero = refl
take_none (suc n) = refl

-- The bytes of the word of the first four bytes, or of all if there are fewer.
word_back : (bytes : List ℕ) → AllByRecursion IsByte bytes → take (length bytes) (word_bytes (word_of (take 4 bytes))) ≡ take 4 bytes
word_back [] all = refl
word_back (a ∷ []) all = rw (one_0 a all.0) refl
word_back (a ∷ (b ∷ [])) all = rw (two_0 a b all.0, two_1 a b all.0 all.1.0) refl
word_back (a ∷ (b ∷ (c ∷ []))) all = rw (three_0 a b c all.0, three_1 a b c all.0 all.1.0, three_2 a b c all.0 all.1.0 all.1.1.0) refl
word_back (a ∷ (b ∷ (c ∷ (d ∷ rest)))) all =
    rw (byte_0 a b c d all.0, byte_1 a b c d all.0 all.1.0, byte_2 a b c d all.0 all.1.0 all.1.1.0, byte_3 a b c d all.0 all.1.0 all.1.1.0 all.1.1.1.0) (ap (λ (t : List ℕ). a ∷ (b ∷ (c ∷ (d ∷ t)))) (take_none (length rest)))

all_drop : (bytes : List ℕ) (k : ℕ) → AllByRecursion IsByte bytes → AllByRecursion IsByte (drop k bytes)
all_drop bytes zero all = all
all_drop [] (suc k) all = tt
all_drop (b ∷ bytes) (suc k) all = all_drop bytes k all.1

-- The first bytes of a message, and the next word of it.
pub one_word : (m : List ℕ) (k : ℕ) → AllByRecursion IsByte m → 4 * k ≤ length m → take (length m) (take (4 * k) m ++ word_bytes (frame_word m k)) ≡ take (4 * (k + 1)) m
one_word m k all few =
    let front = take (4 * k) m in
    let rest = drop (4 * k) m in
    let size : length front ≡ 4 * k = omega (arith, length-take (4 * k) m) in
    let left : length rest ≡ length m - 4 * k = length-drop (4 * k) m in
    let whole : length front + length rest ≡ length m = omega arith in
    let back = word_back rest (all_drop m (4 * k) all) in
    let more : length front + 4 ≡ 4 * (k + 1) = omega arith in
    ap (λ n. take n (front ++ word_bytes (frame_word m k))) (sym whole) ∙ take-append-add front (word_bytes (frame_word m k)) (length rest)
    ∙ ap (λ bs. front ++ bs) back ∙ sym (take-append-add front rest 4) ∙ ap (λ n. take n (front ++ rest)) more ∙ ap (λ bs. take (4 * (k + 1)) bs) (take-append-drop (4 * k) m)
