-- Reading a form's numbers.
use Rattle.std.proofs.Common.{◌≡◌, ℕ, zero, suc, ◌≤◌, Bool, true, false, cond, leb, ◌&&◌, List, [], ◌∷◌, ◌++◌, get_or, Option, Some, None, refl, sym, ap, subst, ◌∙◌, arith}
use Rattle.std.specs.Prelude.{option_map}
use Rattle.std.proofs.lemmas.Bool.{leb-true}
use Rattle.std.specs.Prelude.{MatchOption, IsTrue, IsFalse}
use Rattle.std.proofs.lemmas.Option.{option_and_then_some}
use Rattle.line_format.specs.Numbers.{number_of}
use Rattle.line_format.specs.Forms.{Piece, Word, Number, Hex, numbers_of, AreInRange, high_at}

-- The number in range and the numbers after it.
pub guarded : (a b : Bool) (n : ℕ) (later : Option (List ℕ)) (ns : List ℕ) → cond (a && b) (option_map (λ ms. n ∷ ms) later) None ≡ Some ns
    → (a ≡ true) × (b ≡ true) × (ms : List ℕ) × (later ≡ Some ms) × (ns ≡ n ∷ ms)
guarded true true n (Some ms) ns e = (refl, refl, ms, refl, cc)
guarded true true n None ns e = absurd cc
guarded true false n later ns e = absurd cc
guarded false b n later ns e = absurd cc

nothing : (k i : ℕ) (ns : List ℕ) → ◌≡◌ {A = Option (List ℕ)} (Some []) (Some ns) → get_or ns i 0 ≤ k
nothing k i ns e =
    let empty : [] ≡ ns = cc in
    let P : List ℕ → Type 0 = λ ms. get_or ms i 0 ≤ k in
    subst P empty (omega arith)

first_and_later : (low high n : ℕ) (ms : List ℕ) (ps : List Piece) (i : ℕ) → n ≤ high → AreInRange ps ms → get_or (n ∷ ms) i 0 ≤ high_at (Number low high ∷ ps) i
first_and_later low high n ms ps zero le later = le
first_and_later low high n ms ps (suc i) le later = later i

pub numbers_in_range : (ps : List Piece) (fs : List (List ℕ)) (ns : List ℕ) → numbers_of ps fs ≡ Some ns → AreInRange ps ns
numbers_in_range [] fs ns e i = nothing 0 i ns e
numbers_in_range (p ∷ ps) [] ns e i = nothing (high_at (p ∷ ps) i) i ns e
numbers_in_range (Word w ∷ ps) (f ∷ fs) ns e i = numbers_in_range ps fs ns e i
numbers_in_range (Hex ∷ ps) (f ∷ fs) ns e i = numbers_in_range ps fs ns e i
numbers_in_range (Number low high ∷ ps) (f ∷ fs) ns e i =
    option_and_then_some (λ n. cond (leb low n && leb n high) (option_map (λ ms. n ∷ ms) (numbers_of ps fs)) None) (number_of f) ns e (λ n is rest.
    let g = guarded (leb low n) (leb n high) n (numbers_of ps fs) ns rest in
    let P : List ℕ → Type 0 = λ ms. get_or ms i 0 ≤ high_at (Number low high ∷ ps) i in
    subst P (sym g.4) (first_and_later low high n g.2 ps i (leb-true n high g.1) (numbers_in_range ps fs g.2 g.3)))

pub all_read : (o : Option (List ℕ)) (before after : List ℕ) → before ≡ [] → MatchOption o (IsFalse true) (λ ns. IsTrue true × (after ≡ before ++ ns)) → o ≡ Some after
all_read (Some ns) before after none h = ap (λ (t : List ℕ). Some t) (sym (h.1 ∙ ap (λ (t : List ℕ). t ++ ns) none))
all_read None before after none h = absurd cc
