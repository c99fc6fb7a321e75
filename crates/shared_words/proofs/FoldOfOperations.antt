-- The fold over a list of memory operations, and one list that grows.
use Rattle.std.proofs.Common.{◌≡◌, ◌≢◌, ℕ, Bool, true, false, List, [], ◌∷◌, ◌++◌, refl, ap, ◌∙◌, eq-eqb, ne_eqb}
use Rattle.std.specs.Prelude.{◌==◌, if◌then◌else◌}
use Rattle.shared_words.specs.declared.run_setup.RunSetup.{RunSetup}
use Rattle.shared_words.specs.RunSetups.{config_in, honest_of}
use Rattle.shared_words.specs.DerivedStates.{CallAccess, MemoryOp, DerivedState, initial_derived_state, after_memory_op, state_after_op, state_after_ops, derived_state}
pub use Rattle.shared_words.specs.SharedMemory.{Appends}

pub put : {A : Type 0} → (ℕ → A) → ℕ → A → ℕ → A
put f p x q = if q == p then x else f q

pub put_here : {A : Type 0} → (f : ℕ → A) (p q : ℕ) (x : A) → q ≡ p → put f p x q ≡ x
unfolding put
put_here f p q x e = ap (λ (b : Bool). if b then x else f q) (eq-eqb q p e)

pub put_else : {A : Type 0} → (f : ℕ → A) (p q : ℕ) (x : A) → q ≢ p → put f p x q ≡ f q
unfolding put
put_else f p q x n = ap (λ (b : Bool). if b then x else f q) (ne_eqb q p n)

state_after_ops-snoc : (key : RunSetup) (p : ℕ) (s : DerivedState) (l : List (MemoryOp CallAccess)) (d : MemoryOp CallAccess) → state_after_ops key p s (l ++ d ∷ []) ≡ state_after_op key p (state_after_ops key p s l) d
unfolding state_after_ops
state_after_ops-snoc key p s [] d = refl
state_after_ops-snoc key p s (b ∷ l) d = state_after_ops-snoc key p (state_after_op key p s b) l d

pub standing_snoc : (key : RunSetup) (p : ℕ) (l : List (MemoryOp CallAccess)) (d : MemoryOp CallAccess) → derived_state key p (l ++ d ∷ []) ≡ state_after_op key p (derived_state key p l) d
unfolding derived_state
standing_snoc key p l d = state_after_ops-snoc key p _ l d

pub standing_none : (key : RunSetup) (p : ℕ) → derived_state key p [] ≡ initial_derived_state
unfolding derived_state state_after_ops
standing_none key p = refl

pub stand_honest : (key : RunSetup) (p : ℕ) (s : DerivedState) (d : MemoryOp CallAccess) → honest_of key p ≡ true → state_after_op key p s d ≡ after_memory_op (config_in key p) s d
unfolding state_after_op
stand_honest key p s d e = ap (λ (b : Bool). if b then after_memory_op (config_in key p) s d else s) e

pub stand_hostile : (key : RunSetup) (p : ℕ) (s : DerivedState) (d : MemoryOp CallAccess) → honest_of key p ≡ false → state_after_op key p s d ≡ s
unfolding state_after_op
stand_hostile key p s d e = ap (λ (b : Bool). if b then after_memory_op (config_in key p) s d else s) e

-- A memory operation more in its list.
pub stands_next : (key : RunSetup) (p : ℕ) (acc next : ℕ → List (MemoryOp CallAccess)) (d : MemoryOp CallAccess) → honest_of key p ≡ true → Appends acc next p d → derived_state key p (next p) ≡ after_memory_op (config_in key p) (derived_state key p (acc p)) d
stands_next key p acc next d h g = ap (derived_state key p) g.here ∙ (standing_snoc key p (acc p) d ∙ stand_honest key p (derived_state key p (acc p)) d h)
