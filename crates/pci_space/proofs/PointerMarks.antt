-- Marks of the pointers met.
use Rattle.std.proofs.Common.{◌≡◌, ℕ, ◌<◌, List, ◌∷◌, length, get_or, set, refl, sym, ◌∙◌, ap, arith, get_or-set_other, get_or-set_same}
use Rattle.std.specs.Prelude.{true, false, Bool, ◌==◌, ◌||◌, if◌then◌else◌}
use Rattle.std.specs.List.{sum_by}
use Rattle.pci_space.specs.Walk.{is_met}
use Rattle.std.proofs.lemmas.List.Sums.{sum_by-set}
use Rattle.std.proofs.lemmas.Bool.{eqb-true, eqb-false}

abbrev pub one_if_not : Bool → ℕ
one_if_not m = if m then 0 else 1

pub falls : (marks : List Bool) (p : ℕ) → p < length marks → get_or marks p false ≡ false → sum_by one_if_not (set marks p true) < sum_by one_if_not marks
falls marks p within unseen = omega (arith, sum_by-set one_if_not marks p true false within, ap one_if_not unseen)

abbrev pub Marks : List Bool → List ℕ → Type 0
Marks marks met = (q : ℕ) → q < 256 → get_or marks q false ≡ is_met met q

same_mark : (marks : List Bool) (met : List ℕ) (p q : ℕ) (b : Bool) → (p == q) ≡ b → p < length marks → get_or marks q false ≡ is_met met q →
    get_or (set marks p true) q false ≡ (b || is_met met q)
same_mark marks met p q true e within marked = ap (λ j. get_or (set marks p true) j false) (sym (eqb-true p q e)) ∙ get_or-set_same marks p true false within
same_mark marks met p q false e within marked = get_or-set_other marks p q true false (λ same. eqb-false p q e (sym same)) ∙ marked

pub marks_on : (marks : List Bool) (met : List ℕ) (p : ℕ) → p < length marks → Marks marks met → Marks (set marks p true) (p ∷ met)
marks_on marks met p within marked q small = same_mark marks met p q (p == q) refl within (marked q small)
