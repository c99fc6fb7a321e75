-- The memory operations that are among actions.
use Rattle.std.proofs.Common.{◌≡◌, ℕ, List, [], ◌∷◌, ◌++◌, refl, sym, ap, ◌∙◌, append-nil}
use mathlib.Core.Logic.{dite}
use native.Mathlib.Decide.{ℕ_discrete}
use Rattle.std.proofs.lemmas.Grind.{flat_map-append}
use Rattle.shared_words.specs.DerivedStates.{CallAccess, MemoryOp}
use Rattle.shared_words.specs.Actions.{Action, accessed, access_in, accesses_in}
use Rattle.shared_words.specs.SharedMemory.{Appends}
use Rattle.shared_words.specs.Rules.{accesses_by}

pub accesses_none : {A : Type 0} → accesses_in {A = A} [] ≡ []
unfolding accesses_in
accesses_none = refl

pub accesses_both : {A : Type 0} → (xs ys : List (Action A)) → accesses_in (xs ++ ys) ≡ accesses_in xs ++ accesses_in ys
unfolding accesses_in
accesses_both xs ys = flat_map-append access_in xs ys

pub accesses_snoc : {A : Type 0} → (xs : List (Action A)) (t : Action A) → accesses_in (xs ++ t ∷ []) ≡ accesses_in xs ++ access_in t
unfolding accesses_in
accesses_snoc xs t = flat_map-append access_in xs (t ∷ []) ∙ ap (λ l. accesses_in xs ++ l) (append-nil (access_in t))

-- A memory operation is one more in its list, and another action leaves all of these lists.
pub grows_access : (acc next : ℕ → List (Action (MemoryOp CallAccess))) (p : ℕ) (d : MemoryOp CallAccess) → Appends acc next p (accessed d) → Appends (accesses_by acc) (accesses_by next) p d
grows_access acc next p d g = record { here = ap accesses_in g.here ∙ accesses_snoc (acc p) (accessed d); neighbour_word = λ q ne. ap accesses_in (g.neighbour_word q ne) }

pub grows_other : (acc next : ℕ → List (Action (MemoryOp CallAccess))) (p : ℕ) (t : Action (MemoryOp CallAccess)) → access_in t ≡ [] → Appends acc next p t → accesses_by next ≡ accesses_by acc
grows_other acc next p t none g = λ k q. (dite (ℕ_discrete q p)
    (λ e. ap (λ i. accesses_in (next i)) e ∙ (ap accesses_in g.here ∙ (accesses_snoc (acc p) t ∙ (ap (λ l. accesses_in (acc p) ++ l) none ∙ (append-nil (accesses_in (acc p)) ∙ ap (λ i. accesses_in (acc i)) (sym e))))))
    (λ ne. ap accesses_in (g.neighbour_word q ne))) k
