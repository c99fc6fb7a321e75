-- Lists to whose end one element is added.
use Rattle.std.proofs.Common.{◌≡◌, ℕ, zero, suc, List, [], ◌∷◌, ◌++◌, Some, length, subst, sym, ap, ◌∙◌}
use Rattle.std.specs.Prelude.{slice_get}

module _ {X : Type 0} where
  -- A property of each element, and of the new one.
  pushed : (P : ℕ → X → Type 0) (xs : List X) (x : X) → P (length xs) x → ((k : ℕ) (y : X) → slice_get xs k ≡ Some y → P k y) →
      (k : ℕ) (y : X) → slice_get (xs ++ x ∷ []) k ≡ Some y → P k y
  pushed P [] x here each zero y at = let is : x ≡ y = cc in subst (P 0) is here
  pushed P [] x here each (suc k) y at = absurd cc
  pushed P (z ∷ xs) x here each zero y at = each zero y at
  pushed P (z ∷ xs) x here each (suc k) y at = pushed (λ i. P (suc i)) xs x here (λ i v. each (suc i) v) k y at

  -- The same of a list that is known to be the longer one.
  pub pushed_each : (P : ℕ → X → Type 0) (xs all : List X) (x : X) → all ≡ xs ++ x ∷ [] → P (length xs) x →
      ((k : ℕ) (y : X) → slice_get xs k ≡ Some y → P k y) → (k : ℕ) (y : X) → slice_get all k ≡ Some y → P k y
  pushed_each P xs all x is here each k y at = pushed P xs x here each k y (ap (λ (l : List X). slice_get l k) (sym is) ∙ at)
