-- Elements of lists, by their places.
use Rattle.std.proofs.Common.{◌≡◌, ℕ, zero, suc, [], ◌∷◌, ◌+◌, ◌<◌, ◌≢◌, List, Some, length, refl, sym, ◌∙◌, ap, subst, inl, inr, arith, set, get_or-set_same, get_or-set_other, length-set}
use Rattle.std.specs.Prelude.{slice_get, replicate, ◌⊎◌}
use Rattle.std.proofs.lemmas.List.{get_or-replicate, length-replicate}
use Rattle.std.proofs.lemmas.Option.{slice_get_within, get_or_from_slice_get, slice_get-get_or, slice_get_past}
use Rattle.std.proofs.lemmas.Bool.{cases_lt}

-- Two numbers are equal or not.
pub nat_cases : (m n : ℕ) → (m ≡ n) ⊎ (m ≢ n)
nat_cases m n = elim (cases_lt m n) [
  | inl less ↦ inr (λ same. absurd (omega arith))
  | inr more ↦ elim (cases_lt n m) [
    | inl less ↦ inr (λ same. absurd (omega arith))
    | inr same ↦ inl (omega arith)
  ]
]

module _ {X : Type 0} where
  -- Each element of a list of equal ones.
  pub slice_get-replicate : (count : ℕ) (x y : X) (i : ℕ) → slice_get (replicate count x) i ≡ Some y → y ≡ x
  slice_get-replicate count x y i at =
      let inside = slice_get_within (replicate count x) i y at in
      sym (get_or_from_slice_get (replicate count x) i y x at) ∙ get_or-replicate count i x x (omega (arith, length-replicate count x))

  -- The element that was written.
  pub slice_get-set_same : (xs : List X) (i : ℕ) (x : X) → i < length xs → slice_get (set xs i x) i ≡ Some x
  slice_get-set_same xs i x inside =
      slice_get-get_or (set xs i x) i x (omega (arith, length-set xs i x)) ∙ ap Some (get_or-set_same xs i x x inside)

  -- The other elements.
  pub slice_get-set_other : (xs : List X) (i j : ℕ) (x : X) → j ≢ i → slice_get (set xs i x) j ≡ slice_get xs j
  slice_get-set_other xs i j x apart = elim (cases_lt j (length xs)) [
    | inl inside ↦ (
        slice_get-get_or (set xs i x) j x (omega (arith, length-set xs i x)) ∙ ap Some (get_or-set_other xs i j x x apart)
        ∙ sym (slice_get-get_or xs j x inside)
        )
    | inr past ↦ slice_get_past (set xs i x) j (omega (arith, length-set xs i x)) ∙ sym (slice_get_past xs j past)
  ]

  -- An element has one value.
  pub slice_get-same : (xs : List X) (i : ℕ) (x y : X) → slice_get xs i ≡ Some x → slice_get xs i ≡ Some y → x ≡ y
  slice_get-same xs i x y one other = cc

  -- A list has an element at each place within it.
  pub slice_get-within : (xs : List X) (i : ℕ) → i < length xs → (x : X) × (slice_get xs i ≡ Some x)
  slice_get-within [] i inside = absurd (omega arith)
  slice_get-within (x ∷ xs) zero inside = (x, refl)
  slice_get-within (x ∷ xs) (suc i) inside = slice_get-within xs i (omega arith)

  -- A property of each element below a position, and of a new one there.
  pub set_more : (P : ℕ → X → Type 0) (xs : List X) (i : ℕ) (x : X) → i < length xs → P i x →
      ((j : ℕ) (y : X) → j < i → slice_get xs j ≡ Some y → P j y) → (j : ℕ) (y : X) → j < i + 1 → slice_get (set xs i x) j ≡ Some y → P j y
  set_more P xs i x inside here below j y less at = elim (nat_cases j i) [
    | inl same ↦ (
        let is : x ≡ y = slice_get-same (set xs i x) i x y (slice_get-set_same xs i x inside) (ap (slice_get (set xs i x)) (sym same) ∙ at) in
        subst (λ k. P k y) (sym same) (subst (P i) is here)
        )
    | inr apart ↦ below j y (omega arith) (sym (slice_get-set_other xs i j x apart) ∙ at)
  ]
