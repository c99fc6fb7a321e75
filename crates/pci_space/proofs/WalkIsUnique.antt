-- A list of capabilities has one end.
use Rattle.std.proofs.Common.{◌≡◌, ◌≢◌, ℕ, ◌+◌, ◌<◌, ◌≤◌, List, ◌∷◌, refl, sym, ◌∙◌, ap, subst, arith, [], true, false}
use Rattle.std.specs.Prelude.{Result, Ok, Err, Option, Some, None, MatchOption}
use Rattle.pci_space.specs.declared.found.Found.{Found}
use Rattle.pci_space.specs.Walk.{is_met}
use Rattle.pci_space.specs.declared.found.Listed.{Listed}
use Rattle.pci_space.specs.declared.found.CapabilityFault.{CapabilityFault}
use Rattle.pci_space.specs.declared.found.CapabilityFault.TheVariants.{OutOfSpace, Loop}
use Rattle.pci_space.specs.Walk.{FollowsList, IsWalk, pointer_at, listed_with, nothing_listed, found_in, head_fault}
use Rattle.pci_space.specs.Walk.FollowsList.{ends, is_low, loops, fails, continues}

module _ (bytes : List ℕ) where
  at_zero : (met : List ℕ) (p : ℕ) (so_far : Listed) (s : Result Listed CapabilityFault) → p ≡ 0 → FollowsList bytes met p so_far s → s ≡ Ok so_far
  at_zero met p so_far s e (ends _ _) = refl
  at_zero met p so_far s e (is_low _ _ _ n _) = absurd (n e)
  at_zero met p so_far s e (loops _ _ _ h _) = absurd (omega arith)
  at_zero met p so_far s e (fails _ _ _ _ h _ _) = absurd (omega arith)
  at_zero met p so_far s e (continues _ _ _ _ _ h _ _ _) = absurd (omega arith)

  at_low : (met : List ℕ) (p : ℕ) (so_far : Listed) (s : Result Listed CapabilityFault) → p ≢ 0 → p < 0x40 → FollowsList bytes met p so_far s → s ≡ Err (OutOfSpace p)
  at_low met p so_far s n low (ends _ _) = absurd (n refl)
  at_low met p so_far s n low (is_low _ _ _ _ _) = refl
  at_low met p so_far s n low (loops _ _ _ h _) = absurd (omega arith)
  at_low met p so_far s n low (fails _ _ _ _ h _ _) = absurd (omega arith)
  at_low met p so_far s n low (continues _ _ _ _ _ h _ _ _) = absurd (omega arith)

  at_loop : (met : List ℕ) (p : ℕ) (so_far : Listed) (s : Result Listed CapabilityFault) → 0x40 ≤ p → is_met met p ≡ true → FollowsList bytes met p so_far s → s ≡ Err (Loop p)
  at_loop met p so_far s high again (ends _ _) = absurd (omega arith)
  at_loop met p so_far s high again (is_low _ _ _ _ low) = absurd (omega arith)
  at_loop met p so_far s high again (loops _ _ _ _ _) = refl
  at_loop met p so_far s high again (fails _ _ _ _ _ u _) = cc
  at_loop met p so_far s high again (continues _ _ _ _ _ _ u _ _) = cc

  at_fault : (met : List ℕ) (p : ℕ) (so_far : Listed) (s : Result Listed CapabilityFault) (fault : CapabilityFault) → 0x40 ≤ p → is_met met p ≡ false →
      listed_with bytes p so_far ≡ Err fault → FollowsList bytes met p so_far s → s ≡ Err fault
  at_fault met p so_far s fault high new e (ends _ _) = absurd (omega arith)
  at_fault met p so_far s fault high new e (is_low _ _ _ _ low) = absurd (omega arith)
  at_fault met p so_far s fault high new e (loops _ _ _ _ m) = cc
  at_fault met p so_far s fault high new e (fails _ _ _ _ _ _ e') = cc
  at_fault met p so_far s fault high new e (continues _ _ _ _ _ _ _ e' _) = cc

  at_next : (met : List ℕ) (p : ℕ) (so_far next : Listed) (s : Result Listed CapabilityFault) → 0x40 ≤ p → is_met met p ≡ false →
      listed_with bytes p so_far ≡ Ok next → FollowsList bytes met p so_far s → FollowsList bytes (p ∷ met) (pointer_at bytes (p + 1)) next s
  at_next met p so_far next s high new e (ends _ _) = absurd (omega arith)
  at_next met p so_far next s high new e (is_low _ _ _ _ low) = absurd (omega arith)
  at_next met p so_far next s high new e (loops _ _ _ _ m) = cc
  at_next met p so_far next s high new e (fails _ _ _ _ _ _ e') = cc
  at_next met p so_far next s high new e (continues _ _ _ next' _ _ _ e' rest) =
      let same : next' ≡ next = cc in subst (λ (l : Listed). FollowsList bytes (p ∷ met) (pointer_at bytes (p + 1)) l s) same rest

  pub one_end : (met : List ℕ) (p : ℕ) (so_far : Listed) (r s : Result Listed CapabilityFault) → FollowsList bytes met p so_far r → FollowsList bytes met p so_far s → r ≡ s
  one_end met p so_far r s (ends _ _) other = sym (at_zero met p so_far s refl other)
  one_end met p so_far r s (is_low _ _ _ n low) other = sym (at_low met p so_far s n low other)
  one_end met p so_far r s (loops _ _ _ h m) other = sym (at_loop met p so_far s h m other)
  one_end met p so_far r s (fails _ _ _ fault h u e) other = sym (at_fault met p so_far s fault h u e other)
  one_end met p so_far r s (continues _ _ _ next _ h u e rest) other = one_end (p ∷ met) (pointer_at bytes (p + 1)) next r s rest (at_next met p so_far next s h u e other)

-- A walk over the same bytes has one answer.
pub one_answer : (bytes : List ℕ) (first second : Result Found CapabilityFault) → IsWalk bytes first → IsWalk bytes second → first ≡ second
one_answer bytes first second one other = by_fault (head_fault bytes) one other where
  Answers : Option CapabilityFault → Result Found CapabilityFault → Type 0
  Answers fault answer = MatchOption fault
      ((last : Result Listed CapabilityFault) × FollowsList bytes [] (pointer_at bytes 0x34) nothing_listed last × (answer ≡ found_in bytes last))
      (λ f. answer ≡ Err f)

  by_fault : (fault : Option CapabilityFault) → Answers fault first → Answers fault second → first ≡ second
  by_fault None (last, comes, is) (last', comes', is') = is ∙ ap (found_in bytes) (one_end bytes [] (pointer_at bytes 0x34) nothing_listed last last' comes comes') ∙ sym is'
  by_fault (Some f) is is' = is ∙ sym is'
