-- Writing fields one after the other.
use Rattle.std.proofs.Common.{◌≡◌, ℕ, true, false, List, [], ◌∷◌, ◌++◌, refl, sym, ap}
use Rattle.std.proofs.lemmas.List.{append-nil}
use Rattle.line_format.specs.Forms.{line_of, spaced}

spaced_later : (f : List ℕ) (fs : List (List ℕ)) → line_of (f ∷ fs) ≡ f ++ spaced true fs
spaced_later f [] = sym (append-nil f)
spaced_later f (g ∷ fs) = ap (λ (x : List ℕ). f ++ 32 ∷ x) (spaced_later g fs)

pub spaced_first : (fs : List (List ℕ)) → spaced false fs ≡ line_of fs
spaced_first [] = refl
spaced_first (f ∷ fs) = sym (spaced_later f fs)
