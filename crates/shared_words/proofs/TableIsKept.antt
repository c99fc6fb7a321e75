-- Each action of a peer keeps what the table keeps.
use Rattle.std.proofs.Common.{◌≡◌, ℕ, ◌-◌, ◌^◌, ◌<◌, ◌⊎◌, inr, List, length, get_or, set, true, refl, sym, ap, ◌∙◌, subst, arith}
use mathlib.Core.Logic.{dite}
use native.Mathlib.Decide.{ℕ_discrete}
use Rattle.std.specs.Prelude.{bit_or}
use Rattle.std.proofs.lemmas.List.{length-set}
use Rattle.section_map.specs.Geometry.{word_count}
use Rattle.section_map.specs.MayWrite.{MayWrite}
use Rattle.split_ring.specs.declared.steps.Access.{Access}
use Rattle.split_ring.specs.declared.steps.Access.TheVariants as access
use Rattle.link_invariant.specs.Steps.{Stored, ReadsMemory, MemoryAfter}
use Rattle.shared_words.specs.declared.run_setup.RunSetup.{RunSetup}
use Rattle.shared_words.specs.RunSetups.{honest_of, IsFit}
use Rattle.shared_words.specs.DerivedStates.{CallAccess, MemoryOp, called, numbered, carried, restarted, derived_state, IsNext}
use Rattle.shared_words.specs.Actions.{Action, accessed, rang, looked, cleared}
use Rattle.shared_words.specs.Interrupts.{interrupt_word, control_word, session_word, IsOneShot, MayRing}
use Rattle.shared_words.specs.SharedMemory.{Appends, IsOwned, MayStoreSession, MayLoadSession}
use Rattle.shared_words.specs.ActionsMade.{without_first, ActionsMade}
use Rattle.shared_words.specs.ActionsMade as happened
use Rattle.shared_words.specs.Rules.{session_words, accesses_by, Memory}
use Rattle.shared_words.proofs.LinkOfSetup.{within}
use Rattle.shared_words.proofs.Regions.{stored}

-- An action that stores n in the word i.
after_store : (key : RunSetup) (words : List ℕ) (acc next : ℕ → List (Action (MemoryOp CallAccess))) (i n : ℕ) → (i < word_count key.geometry → n < 2 ^ 32) → ((p : ℕ) → i ≡ session_word key p → n < 2 ^ 32) → Memory key words acc → i < length words →
    ActionsMade key (λ w. get_or (set words i n) w 0) next → Memory key (set words i n) next
after_store key words acc next i n low last m room then = let st = stored words i n room in record {
  sized = length-set words i n ∙ m.sized;
  small = λ w lt. dite (ℕ_discrete w i) (λ e. subst (λ k. k < 2 ^ 32) (sym (ap (λ j. get_or (set words i n) j 0) e ∙ st.here)) (low (omega arith))) (λ ne. subst (λ k. k < 2 ^ 32) (sym (st.neighbour_word w ne)) (m.small w lt));
  numbers = λ p p2. dite (ℕ_discrete (session_word key p) i) (λ e. subst (λ k. k < 2 ^ 32) (sym (ap (λ j. get_or (set words i n) j 0) e ∙ st.here)) (last p (sym e))) (λ ne. subst (λ k. k < 2 ^ 32) (sym (st.neighbour_word (session_word key p) ne)) (m.numbers p p2));
  happened = then;
}

-- One that leaves the words.
after_load : (key : RunSetup) (words : List ℕ) (acc next : ℕ → List (Action (MemoryOp CallAccess))) → Memory key words acc → ActionsMade key (λ w. get_or words w 0) next → Memory key words next
after_load key words acc next m then = record { sized = m.sized; small = m.small; numbers = m.numbers; happened = then }

pub memory_read : (key : RunSetup) (words : List ℕ) (acc next : ℕ → List (Action (MemoryOp CallAccess))) (p i : ℕ) (t : CallAccess) → p < key.geometry.peers → i < word_count key.geometry → t.access ≡ access.Read i → t.value ≡ get_or words i 0 →
    (honest_of key p ≡ true → IsNext key p (derived_state key p (accesses_by acc p)) t.begins t.access) → Appends acc next p (accessed (called t)) → Memory key words acc → Memory key words next
memory_read key words acc next p i t lt inside is found nx g m = let memory : ℕ → ℕ = λ w. get_or words w 0 in after_load key words acc next m
    (happened.makes memory memory acc next p t m.happened lt record { owned = subst (IsOwned key p) (sym is) inside; next = nx }
    (subst (λ (a : Access). ReadsMemory memory a t.value) (sym is) found) (subst (λ (a : Access). MemoryAfter p memory a memory) (sym is) refl) g)

pub memory_write : (key : RunSetup) (words : List ℕ) (acc next : ℕ → List (Action (MemoryOp CallAccess))) (p i n : ℕ) (t : CallAccess) → IsFit key → p < key.geometry.peers → MayWrite key.geometry p i ⊎ (i ≡ p) → IsOwned key p t.access → n < 2 ^ 32 → ((memory : ℕ → ℕ) → ReadsMemory memory t.access t.value) →
    ((memory after : ℕ → ℕ) → Stored memory after i n → MemoryAfter p memory t.access after) → (honest_of key p ≡ true → IsNext key p (derived_state key p (accesses_by acc p)) t.begins t.access) → Appends acc next p (accessed (called t)) → Memory key words acc → Memory key (set words i n) next
memory_write key words acc next p i n t fit lt own owned small meets leaves nx g m = let memory : ℕ → ℕ = λ w. get_or words w 0 in let after : ℕ → ℕ = λ w. get_or (set words i n) w 0 in
    let inside = within key p i fit lt own in let room : i < length words = omega (arith, m.sized, inside) in after_store key words acc next i n (λ low. small) (λ q e. small) m room
    (happened.makes memory after acc next p t m.happened lt record { owned = owned; next = nx } (meets memory) (leaves memory after (stored words i n room)) g)

-- The reset of a peer.
pub memory_reset : (key : RunSetup) (words : List ℕ) (acc next : ℕ → List (Action (MemoryOp CallAccess))) (p : ℕ) → IsFit key → p < key.geometry.peers → Appends acc next p (accessed restarted) → Memory key words acc → Memory key (set words p 0) next
memory_reset key words acc next p fit lt g m = let inside = within key p p fit lt (inr refl) in let room : p < length words = omega (arith, m.sized, inside) in after_store key words acc next p 0 (λ low. omega arith) (λ q e. omega arith) m room
    (happened.resets (λ w. get_or words w 0) (λ w. get_or (set words p 0) w 0) acc next p m.happened lt (stored words p 0 room) g)

-- Session words

pub memory_stored : (key : RunSetup) (words : List ℕ) (acc next : ℕ → List (Action (MemoryOp CallAccess))) (p i n : ℕ) → p < 2 → p < key.geometry.peers → i ≡ session_word key p → n < 2 ^ 32 → MayStoreSession key p (accesses_by acc p) n → Appends acc next p (accessed (numbered n)) →
    Memory key words acc → Memory key (set words i n) next
memory_stored key words acc next p i n p2 lt is small may g m = let memory : ℕ → ℕ = λ w. get_or words w 0 in let after : ℕ → ℕ = λ w. get_or (set words i n) w 0 in
    let room : i < length words = omega (arith, m.sized, is) in after_store key words acc next i n (λ low. small) (λ q e. small) m room
    (happened.stores memory after acc next p n m.happened lt may (subst (λ j. Stored memory after j n) is (stored words i n room)) g)

pub memory_loaded : (key : RunSetup) (words : List ℕ) (acc next : ℕ → List (Action (MemoryOp CallAccess))) (p : ℕ) → p < key.geometry.peers → MayLoadSession key p (accesses_by acc p) → Appends acc next p (accessed (carried (session_words key words (1 - p)))) →
    Memory key words acc → Memory key words next
memory_loaded key words acc next p lt may g m = after_load key words acc next m (happened.loads (λ w. get_or words w 0) acc next p m.happened lt may g)

-- Interrupt words, and Interrupt Control

pub memory_rang : (key : RunSetup) (words : List ℕ) (acc next : ℕ → List (Action (MemoryOp CallAccess))) (p i at k : ℕ) → p < key.geometry.peers → at < key.geometry.peers → k < 64 → i ≡ interrupt_word key at → (IsOneShot key at → MayRing at (acc p)) → Appends acc next p (rang at k) →
    Memory key words acc → Memory key (set words i (bit_or (get_or words i 0) (2 ^ k))) next
memory_rang key words acc next p i at k lt there low is may g m = let memory : ℕ → ℕ = λ w. get_or words w 0 in let n = bit_or (get_or words i 0) (2 ^ k) in let after : ℕ → ℕ = λ w. get_or (set words i n) w 0 in
    let room : i < length words = omega (arith, m.sized, is) in after_store key words acc next i n (λ below. absurd (omega arith)) (λ q e. absurd (omega arith)) m room
    (happened.rings memory after acc next p at k m.happened lt there low may (subst (λ j. Stored memory after j (bit_or (get_or words j 0) (2 ^ k))) is (stored words i n room)) g)

pub memory_looked : (key : RunSetup) (words : List ℕ) (acc next : ℕ → List (Action (MemoryOp CallAccess))) (p i : ℕ) → p < key.geometry.peers → i ≡ interrupt_word key p → Appends acc next p (looked (get_or words i 0)) → Memory key words acc → Memory key (set words i 0) next
memory_looked key words acc next p i lt is g m = let memory : ℕ → ℕ = λ w. get_or words w 0 in let after : ℕ → ℕ = λ w. get_or (set words i 0) w 0 in
    let room : i < length words = omega (arith, m.sized, is) in after_store key words acc next i 0 (λ below. omega arith) (λ q e. omega arith) m room
    (happened.looks memory after acc next p m.happened lt (subst (λ j. Stored memory after j 0) is (stored words i 0 room)) (subst (λ j. Appends acc next p (looked (get_or words j 0))) is g))

pub memory_cleared : (key : RunSetup) (words : List ℕ) (acc next : ℕ → List (Action (MemoryOp CallAccess))) (p i at : ℕ) → p < key.geometry.peers → at < key.geometry.peers → i ≡ control_word key at → Appends acc next p (cleared at (get_or words i 0)) →
    Memory key words acc → Memory key (set words i (without_first (get_or words i 0))) next
memory_cleared key words acc next p i at lt there is g m = let memory : ℕ → ℕ = λ w. get_or words w 0 in let n = without_first (get_or words i 0) in let after : ℕ → ℕ = λ w. get_or (set words i n) w 0 in
    let room : i < length words = omega (arith, m.sized, is) in after_store key words acc next i n (λ below. absurd (omega arith)) (λ q e. absurd (omega arith)) m room
    (happened.clears memory after acc next p at m.happened lt there (subst (λ j. Stored memory after j (without_first (get_or words j 0))) is (stored words i n room)) (subst (λ j. Appends acc next p (cleared at (get_or words j 0))) is g))
