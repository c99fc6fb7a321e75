-- An end that never has the mark of a refusal in the states of its lists never had it along them.
use Rattle.std.proofs.Common.{◌≡◌, ℕ, ◌<◌, ◌⊎◌, inl, inr, ⊎_elim, false, List, [], ◌∷◌, ◌++◌, refl, sym, ap, ◌∙◌, subst}
use mathlib.Core.Logic.{dite}
use native.Mathlib.Decide.{ℕ_discrete}
use Rattle.shared_words.specs.declared.run_setup.RunSetup.{RunSetup}
use Rattle.shared_words.specs.DerivedStates.{CallAccess, MemoryOp, derived_state, NeverMarked}
use Rattle.shared_words.specs.SharedMemory.{OperationsMade, Appends, starts, makes, stores, loads, resets}

-- A front of a list with one memory operation more is a front of the list, or all of it.
front_snoc : (list front back : List (MemoryOp CallAccess)) (d : MemoryOp CallAccess) → list ++ d ∷ [] ≡ front ++ back → ((rest : List (MemoryOp CallAccess)) × (list ≡ front ++ rest)) ⊎ (front ≡ list ++ d ∷ [])
front_snoc list [] back d e = inl (list, refl)
front_snoc [] (f ∷ []) back d e = inr cc
front_snoc [] (f ∷ g ∷ front) back d e = absurd (cc)
front_snoc (x ∷ list) (f ∷ front) back d e = let same : list ++ d ∷ [] ≡ front ++ back = cc in let first : x ≡ f = cc in
    ⊎_elim (λ (s : (rest : List (MemoryOp CallAccess)) × (list ≡ front ++ rest)). inl (s.0, λ i. first i ∷ s.1 i)) (λ all. inr (let back_first : f ≡ x = sym first in λ i. back_first i ∷ all i)) (front_snoc list front back d same)

never_more : (key : RunSetup) (p : ℕ) (list : List (MemoryOp CallAccess)) (d : MemoryOp CallAccess) → NeverMarked key p list → (derived_state key p (list ++ d ∷ [])).end.handshake.mark ≡ false → NeverMarked key p (list ++ d ∷ [])
never_more key p list d was here front back e = ⊎_elim (λ (s : (rest : List (MemoryOp CallAccess)) × (list ≡ front ++ rest)). was front s.0 s.1) (λ all. ap (λ l. (derived_state key p l).end.handshake.mark) all ∙ here) (front_snoc list front back d e)

-- No end of these lists has the mark.
abbrev pub NoneMarked : RunSetup → (ℕ → List (MemoryOp CallAccess)) → Type 0
NoneMarked key acc = (p : ℕ) → p < 2 → (derived_state key p (acc p)).end.handshake.mark ≡ false

never_grown : (key : RunSetup) (acc next : ℕ → List (MemoryOp CallAccess)) (q p : ℕ) (d : MemoryOp CallAccess) → Appends acc next q d → NeverMarked key p (acc p) → (derived_state key p (next p)).end.handshake.mark ≡ false → NeverMarked key p (next p)
never_grown key acc next q p d grows was here = dite (ℕ_discrete p q)
    (λ e. let is : next p ≡ acc p ++ d ∷ [] = ap next e ∙ (grows.here ∙ ap (λ k. acc k ++ d ∷ []) (sym e)) in
    subst (NeverMarked key p) (sym is) (never_more key p (acc p) d was (ap (λ l. (derived_state key p l).end.handshake.mark) (sym is) ∙ here)))
    (λ ne. subst (NeverMarked key p) (sym (grows.neighbour_word p ne)) was)

nil_front : (front back : List (MemoryOp CallAccess)) → [] ≡ front ++ back → front ≡ []
nil_front [] back e = refl
nil_front (f ∷ front) back e = absurd (cc)

-- If no end of lists that were made has the mark, no state along them has it.
pub never_marked : (key : RunSetup) → ((memory words : ℕ → ℕ) (acc : ℕ → List (MemoryOp CallAccess)) → OperationsMade key memory words acc → NoneMarked key acc) →
    (memory words : ℕ → ℕ) (acc : ℕ → List (MemoryOp CallAccess)) → OperationsMade key memory words acc → (p : ℕ) → p < 2 → NeverMarked key p (acc p)
never_marked key none memory words acc (starts _ _ _ zeros no_words empty) p p2 = λ front back e. ap (λ l. (derived_state key p l).end.handshake.mark) (nil_front front back (sym (empty p) ∙ e) ∙ sym (empty p)) ∙ none memory words acc (starts memory words acc zeros no_words empty) p p2
never_marked key none after words next (makes memory _ _ acc _ q t made lt may meets leaves grows) p p2 = never_grown key acc next q p _ grows (never_marked key none memory words acc made p p2) (none after words next (makes memory after words acc next q t made lt may meets leaves grows) p p2)
never_marked key none memory now next (stores _ words _ acc _ q number made may stored grows) p p2 = never_grown key acc next q p _ grows (never_marked key none memory words acc made p p2) (none memory now next (stores memory words now acc next q number made may stored grows) p p2)
never_marked key none memory words next (loads _ _ acc _ q made may grows) p p2 = never_grown key acc next q p _ grows (never_marked key none memory words acc made p p2) (none memory words next (loads memory words acc next q made may grows) p p2)
never_marked key none after words next (resets memory _ _ acc _ q made lt stored grows) p p2 = never_grown key acc next q p _ grows (never_marked key none memory words acc made p p2) (none after words next (resets memory after words acc next q made lt stored grows) p p2)
