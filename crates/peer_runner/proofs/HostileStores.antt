-- Each store of a hostile peer keeps the rule.
use Rattle.std.proofs.Common.{◌≡◌, ◌≢◌, ℕ, ◌^◌, ◌<◌, ◌⊎◌, inl, inr, false, List, [], ◌∷◌, ◌++◌, set, refl, sym, ◌∙◌, subst}
use Rattle.std.specs.Prelude.{None}
use Rattle.section_map.specs.MayWrite.{InSection}
use Rattle.split_ring.specs.declared.steps.Access.TheVariants as access
use Rattle.link_invariant.specs.Steps.{Stored}
use Rattle.shared_words.specs.declared.run_setup.RunSetup.{RunSetup}
use Rattle.shared_words.specs.RunSetups.{honest_of, IsFit}
use Rattle.shared_words.specs.DerivedStates.{CallAccess, MemoryOp, called, call_access}
use Rattle.shared_words.specs.Actions.{Action, accessed}
use Rattle.shared_words.specs.Rules.{Memory}
use Rattle.peer_runner.specs.RunningLaws.{HostileWordsAreFree}
use Rattle.shared_words.proofs.FoldOfOperations.{put, put_here, put_else}
use Rattle.shared_words.proofs.LinkOfSetup.{clash}
use Rattle.shared_words.proofs.TableIsKept.{memory_write}

hostile_word_is_free : (key : RunSetup) (words : List ℕ) (acc : ℕ → List (Action (MemoryOp CallAccess))) (p w n : ℕ) → IsFit key → Memory key words acc → p < key.geometry.peers → honest_of key p ≡ false → InSection key.geometry p w ⊎ (w ≡ p) → n < 2 ^ 32 →
    (next : ℕ → List (Action (MemoryOp CallAccess))) × Memory key (set words w n) next × ((q : ℕ) → q ≢ p → next q ≡ acc q)
hostile_word_is_free key words acc p w n fit m lt h (inl own) small = let t = call_access None (access.Write w n) 0 in let list = acc p ++ accessed (called t) ∷ [] in
    (put acc p list, memory_write key words acc (put acc p list) p w n t fit lt (inl (inl own)) (inl own) small (λ memory. tt) (λ memory after st. st) (λ hp. absurd (clash (sym h ∙ hp))) (record { here = put_here acc p p list refl; neighbour_word = λ q ne. put_else acc p q list ne }) m, λ q ne. put_else acc p q list ne)
hostile_word_is_free key words acc p w n fit m lt h (inr own) small = let t = call_access None (access.State n) 0 in let list = acc p ++ accessed (called t) ∷ [] in
    (put acc p list, memory_write key words acc (put acc p list) p w n t fit lt (inr own) tt small (λ memory. tt) (λ memory after st. subst (λ x. Stored memory after x n) own st) (λ hp. absurd (clash (sym h ∙ hp))) (record { here = put_here acc p p list refl; neighbour_word = λ q ne. put_else acc p q list ne }) m, λ q ne. put_else acc p q list ne)

pub hostile_words_are_free : HostileWordsAreFree
hostile_words_are_free = record {
  below = λ key s kept w lt. kept.memory.small w lt;
  free = λ key s kept p w n lt h own small. hostile_word_is_free key s.words kept.acc p w n kept.fit kept.memory lt h own small;
}
