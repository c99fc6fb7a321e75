-- Each action of the holder of a range of peers keeps the rule.
use Rattle.std.proofs.Common.{◌≡◌, ◌≢◌, ℕ, zero, suc, ◌+◌, ◌-◌, ◌^◌, ◌<◌, ◌⊎◌, ⊎_elim, List, [], ◌∷◌, ◌++◌, length, get_or, set, true, refl, sym, ap, ◌∙◌, subst, arith}
use mathlib.Core.Option.{none, some, some-injective, some-ne-none}
use lib.ListN.{get_elem?}
use Rattle.std.proofs.lemmas.List.{set-get_or}
use Rattle.std.specs.Prelude.{Option, bit_or, bit_and}
use Rattle.atomic_table.specs.Table.{Me, Step, step, Allows}
use Rattle.atomic_table.specs.Table.Act.{keeps}
use Rattle.atomic_table.proofs.Lists.{at_set}
use Rattle.section_map.specs.Geometry.{word_count}
use Rattle.section_map.specs.MayWrite.{MayWrite}
use Rattle.split_ring.specs.declared.steps.Access.TheVariants as access
use Rattle.call_grammar.specs.Calls.{Call}
use Rattle.link_invariant.specs.Steps.{Stored, ReadsMemory, MemoryAfter}
use Rattle.shared_words.specs.declared.run_setup.RunSetup.{RunSetup}
use Rattle.shared_words.specs.declared.view.View.{View}
use Rattle.shared_words.specs.RunSetups.{honest_of, IsFit}
use Rattle.shared_words.specs.DerivedStates.{CallAccess, MemoryOp, called, numbered, carried, restarted, call_access, derived_state, IsNext}
use Rattle.shared_words.specs.Actions.{Action, accessed, rang, looked, cleared, accesses_in}
use Rattle.shared_words.specs.Interrupts.{interrupt_word, control_word, session_word, IsOneShot, MayRing}
use Rattle.shared_words.specs.SharedMemory.{MayStoreSession, MayLoadSession}
use Rattle.shared_words.specs.ActionsMade.{without_first}
use Rattle.shared_words.specs.Rules.{session_words, IsOwned, Memory, Fits, TableInvariant, view, front, added_to, more, reads, loads_number, looks, rings_at, clears, LearnsExactly}
use Rattle.shared_words.proofs.FoldOfOperations.{put, put_here, put_else, Appends}
use Rattle.shared_words.proofs.TableIsKept.{memory_read, memory_write, memory_stored, memory_loaded, memory_reset, memory_rang, memory_looked, memory_cleared}
use Rattle.shared_words.proofs.ActionsMakeWords.{interrupts_by}
use Rattle.shared_words.proofs.InterruptsKept.{may_ring}

pub at_within : {A : Type 0} (l : List A) (k : ℕ) (a : A) → get_elem? l k ≡ some a → k < length l
at_within [] k a e = absurd (some-ne-none a (sym e))
at_within (x ∷ xs) zero a e = omega arith
at_within (x ∷ xs) (suc k) a e = omega (arith, at_within xs k a e)

-- The peer `from`, in the range of the holder `id`, made the action a.
module _ (n : ℕ) (holder : ℕ → ℕ) (acc : ℕ → List (Action (MemoryOp CallAccess))) (id from : ℕ) (l : List (Action (MemoryOp CallAccess))) (ls : List (List (Action (MemoryOp CallAccess)))) (a : Action (MemoryOp CallAccess)) where
  own : Fits n holder acc id (view from (l ∷ ls)) → Fits n holder (put acc from (l ++ a ∷ [])) id (view from ((l ++ a ∷ []) ∷ ls))
  own f = record {
    inside = f.inside;
    mine = f.mine;
    known = λ k m at. known k m at;
  }
    where
      known : (k : ℕ) (m : List (Action (MemoryOp CallAccess))) → get_elem? ((l ++ a ∷ []) ∷ ls) k ≡ some m → put acc from (l ++ a ∷ []) (from + k) ≡ m
      known zero m at = put_here acc from (from + 0) _ (omega arith) ∙ some-injective _ _ at
      known (suc k) m at = put_else acc from (from + suc k) _ (λ e. omega arith) ∙ f.known (suc k) m at

  other : (j : ℕ) (v : View) → j ≢ id → holder from ≡ id → Fits n holder acc j v → Fits n holder (put acc from (l ++ a ∷ [])) j v
  other j v ne mine f = record {
    inside = f.inside;
    mine = f.mine;
    known = λ k m at. put_else acc from (v.from + k) _ (λ e. ne (sym (f.mine k (at_within v.lists k m at)) ∙ (ap holder e ∙ mine))) ∙ f.known k m at;
  }

  fits_after : (views : List View) → ((j : ℕ) (v : View) → get_elem? views j ≡ some v → Fits n holder acc j v) → get_elem? views id ≡ some (view from (l ∷ ls))
      → (j : ℕ) (v : View) → get_elem? (set views id (view from ((l ++ a ∷ []) ∷ ls))) j ≡ some v → Fits n holder (put acc from (l ++ a ∷ [])) j v
  fits_after views fits at j v e = let was = fits id _ at in ⊎_elim
      (λ t. subst (λ i. Fits n holder (put acc from (l ++ a ∷ [])) i v) (sym t.0) (subst (Fits n holder (put acc from (l ++ a ∷ [])) id) t.1 (own was)))
      (λ t. other j v t.0 (ap holder (omega arith) ∙ was.mine 0 (omega arith)) (fits j v t.1))
      (at_set views id j _ v e)

  grows : acc from ≡ l → Appends acc (put acc from (l ++ a ∷ [])) from a
  grows e = record { here = put_here acc from from _ refl ∙ ap (λ m. m ++ a ∷ []) (sym e); neighbour_word = λ q n. put_else acc from q _ n }

-- A number that is written to its own place.
pub put_back : (ws : List ℕ) (i n : ℕ) → n ≡ get_or ws i 0 → set ws i n ≡ ws
put_back ws i n e = ap (set ws i) e ∙ set-get_or ws i 0

-- For all words: the peer `from` makes the action d on the word that it finds, and the word becomes
-- its image under f. The table keeps its invariant.
step_allowed : (key : RunSetup) (d : ℕ → Action (MemoryOp CallAccess)) (f : ℕ → ℕ) (learned : ℕ → Me ℕ View → Type 0) (slots id i from : ℕ) (lists : List (List (Action (MemoryOp CallAccess)))) (c : List (ℕ × ℕ)) → 0 < length lists →
    ((words : List ℕ) (acc next : ℕ → List (Action (MemoryOp CallAccess))) (n : ℕ) → n ≡ get_or words i 0 → IsFit key → from < key.geometry.peers → acc from ≡ front lists → Appends acc next from (d n) → next from ≡ front lists ++ d n ∷ [] → Memory key words acc →
    Memory key (set words i (f n)) next × learned n (more (view from lists) (d n), c)) → Allows (TableInvariant key) slots id (view from lists, c) i f learned
step_allowed key d f learned slots id i from [] c room keep s k homes at fits = absurd (omega arith)
step_allowed key d f learned slots id i from (l ∷ ls) c room keep s k homes at fits = let n = get_or s.words i 0 in let a = d n in let was = k.fits id _ at in
    let next = put k.acc from (l ++ a ∷ []) in
    let p : from < key.geometry.peers = let h = was.inside in omega arith in
    let mine : k.acc from ≡ l = ap k.acc (omega arith) ∙ was.known 0 l refl in
    let kept : Memory key (set s.words i (f n)) next × learned n (more (view from (l ∷ ls)) a, c) = keep s.words k.acc next n refl k.fit p mine (grows key.geometry.peers k.holder k.acc id from l ls a mine) (put_here k.acc from from (l ++ a ∷ []) refl) k.memory in (
      more (view from (l ∷ ls)) a,
      keeps,
      tt,
      record {
        holder = k.holder;
        acc = next;
        fits = fits_after key.geometry.peers k.holder k.acc id from l ls a s.views k.fits at;
        fit = k.fit;
        memory = kept.0;
      },
      kept.1,
    )

pub load_allowed : (key : RunSetup) (call : Option Call) (slots id i from : ℕ) (lists : List (List (Action (MemoryOp CallAccess)))) (c : List (ℕ × ℕ)) → 0 < length lists → i < word_count key.geometry →
    (honest_of key from ≡ true → IsNext key from (derived_state key from (accesses_in (front lists))) call (access.Read i)) → Allows (TableInvariant key) slots id (view from lists, c) i (λ n. n) (reads call (step slots i 0 0 none) (view from lists, c))
load_allowed key call slots id i from lists c room low is = step_allowed key (λ n. accessed (called (call_access call (access.Read i) n))) (λ n. n) (reads call (step slots i 0 0 none) (view from lists, c)) slots id i from lists c room
    (λ words acc next n found fit p mine g then m. (
      subst (λ ws. Memory key ws next) (sym (put_back words i n found))
          (memory_read key words acc next from i (call_access call (access.Read i) n) p low refl found (λ h. subst (λ l. IsNext key from (derived_state key from (accesses_in l)) call (access.Read i)) (sym mine) (is h)) g m),
      (refl, subst (λ k. k < 2 ^ 32) (sym found) (m.small i low)),
    ))

-- The access a is a store of n in the word i.
pub store_allowed : (key : RunSetup) (a : CallAccess) (slots id i n from : ℕ) (lists : List (List (Action (MemoryOp CallAccess)))) (c : List (ℕ × ℕ)) → 0 < length lists → MayWrite key.geometry from i ⊎ (i ≡ from) → IsOwned key from a.access → n < 2 ^ 32 →
    ((memory : ℕ → ℕ) → ReadsMemory memory a.access a.value) → ((memory after : ℕ → ℕ) → Stored memory after i n → MemoryAfter from memory a.access after) →
    (honest_of key from ≡ true → IsNext key from (derived_state key from (accesses_in (front lists))) a.begins a.access) → Allows (TableInvariant key) slots id (view from lists, c) i (λ _. n) (λ _ t. t ≡ (more (view from lists) (accessed (called a)), c))
store_allowed key a slots id i n from lists c room owns owned small meets leaves is = step_allowed key (λ _. accessed (called a)) (λ _. n) (λ _ t. t ≡ (more (view from lists) (accessed (called a)), c)) slots id i from lists c room
    (λ words acc next found at fit p mine g then m. (
      memory_write key words acc next from i n a fit p owns owned small meets leaves (λ h. subst (λ l. IsNext key from (derived_state key from (accesses_in l)) a.begins a.access) (sym mine) (is h)) g m,
      refl,
    ))

-- The store of the own session word, the load of the other's, and the reset's store.
pub number_allowed : (key : RunSetup) (slots id i n from : ℕ) (lists : List (List (Action (MemoryOp CallAccess)))) (c : List (ℕ × ℕ)) → 0 < length lists → from < 2 → i ≡ session_word key from → n < 2 ^ 32 → MayStoreSession key from (accesses_in (front lists)) n →
    Allows (TableInvariant key) slots id (view from lists, c) i (λ _. n) (λ _ t. t ≡ (more (view from lists) (accessed (numbered n)), c))
number_allowed key slots id i n from lists c room p2 is small may = step_allowed key (λ _. accessed (numbered n)) (λ _. n) (λ _ t. t ≡ (more (view from lists) (accessed (numbered n)), c)) slots id i from lists c room
    (λ words acc next found at fit p mine g then m. (memory_stored key words acc next from i n p2 p is small (subst (λ l. MayStoreSession key from (accesses_in l) n) (sym mine) may) g m, refl))

pub carry_allowed : (key : RunSetup) (slots id i from : ℕ) (lists : List (List (Action (MemoryOp CallAccess)))) (c : List (ℕ × ℕ)) → 0 < length lists → i ≡ session_word key (1 - from) → MayLoadSession key from (accesses_in (front lists)) →
    Allows (TableInvariant key) slots id (view from lists, c) i (λ n. n) (loads_number (step slots i 0 0 none) (view from lists, c))
carry_allowed key slots id i from lists c room is may = step_allowed key (λ n. accessed (carried n)) (λ n. n) (loads_number (step slots i 0 0 none) (view from lists, c)) slots id i from lists c room
    (λ words acc next n found fit p mine g then m. let same : n ≡ session_words key words (1 - from) = found ∙ ap (λ j. get_or words j 0) is in (
      subst (λ ws. Memory key ws next) (sym (put_back words i n found))
          (memory_loaded key words acc next from p (subst (λ l. MayLoadSession key from (accesses_in l)) (sym mine) may) (subst (λ k. Appends acc next from (accessed (carried k))) same g) m),
      (refl, subst (λ k. k < 2 ^ 32) (sym same) (m.numbers (1 - from) (omega arith))),
    ))

pub reset_allowed : (key : RunSetup) (slots id i from : ℕ) (lists : List (List (Action (MemoryOp CallAccess)))) (c : List (ℕ × ℕ)) → 0 < length lists → i ≡ from →
    Allows (TableInvariant key) slots id (view from lists, c) i (λ _. 0) (λ _ t. t ≡ (more (view from lists) (accessed restarted), c))
reset_allowed key slots id i from lists c room is = step_allowed key (λ _. accessed restarted) (λ _. 0) (λ _ t. t ≡ (more (view from lists) (accessed restarted), c)) slots id i from lists c room
    (λ words acc next found at fit p mine g then m. (subst (λ j. Memory key (set words j 0) next) (sym is) (memory_reset key words acc next from fit p g m), refl))

-- An allowed action stays allowed if a consequence replaces the condition on its result.
retold : (key : RunSetup) (slots id i : ℕ) (f : ℕ → ℕ) (me : Me ℕ View) (learned then : ℕ → Me ℕ View → Type 0) → ((n : ℕ) (t : Me ℕ View) → learned n t → then n t) → Allows (TableInvariant key) slots id me i f learned → Allows (TableInvariant key) slots id me i f then
retold key slots id i f me learned then more allowed s k homes at fits = let x = allowed s k homes at fits in (x.0, x.1, x.2, x.3, more _ _ x.4)

ring_learned : (key : RunSetup) (target bit slots id i from k : ℕ) (lists : List (List (Action (MemoryOp CallAccess)))) (c : List (ℕ × ℕ)) → bit < 64 → k ≡ 2 ^ bit → 0 < length lists → target < key.geometry.peers → i ≡ interrupt_word key target → (IsOneShot key target → MayRing target (front lists)) →
    Allows (TableInvariant key) slots id (view from lists, c) i (λ n. bit_or n k) (rings_at target bit (step slots i k 0 none) (view from lists, c))
ring_learned key target bit slots id i from k lists c low pow room lt is may = step_allowed key (λ _. rang target bit) (λ n. bit_or n k) (rings_at target bit (step slots i k 0 none) (view from lists, c)) slots id i from lists c room
    (λ words acc next n found fit p mine g then m. (
      subst (λ j. Memory key (set words i (bit_or n j)) next) (sym pow) (subst (λ j. Memory key (set words i (bit_or j (2 ^ bit))) next) (sym found)
          (memory_rang key words acc next from i target bit p lt low is (λ s. subst (MayRing target) (sym mine) (may s)) g m)),
      refl,
    ))

pub ring_allowed : (key : RunSetup) (then : Step ℕ → Me ℕ View → ℕ → Me ℕ View → Type 0) (target bit slots id i from k : ℕ) (lists : List (List (Action (MemoryOp CallAccess)))) (c : List (ℕ × ℕ)) → LearnsExactly then (rings_at target bit) → bit < 64 → k ≡ 2 ^ bit → 0 < length lists → target < key.geometry.peers →
    i ≡ interrupt_word key target → (IsOneShot key target → MayRing target (front lists)) → Allows (TableInvariant key) slots id (view from lists, c) i (λ n. bit_or n k) (then (step slots i k 0 none) (view from lists, c))
ring_allowed key then target bit slots id i from k lists c reports low pow room lt is may =
    retold key slots id i (λ n. bit_or n k) (view from lists, c) (rings_at target bit (step slots i k 0 none) (view from lists, c)) (then (step slots i k 0 none) (view from lists, c))
    (λ n t h. (reports (step slots i k 0 none) (view from lists, c) n t).1 h) (ring_learned key target bit slots id i from k lists c low pow room lt is may)

pub look_allowed : (key : RunSetup) (slots id i from : ℕ) (lists : List (List (Action (MemoryOp CallAccess)))) (c : List (ℕ × ℕ)) → 0 < length lists → i ≡ interrupt_word key from →
    Allows (TableInvariant key) slots id (view from lists, c) i (λ _. 0) (looks (step slots i 0 0 none) (view from lists, c))
look_allowed key slots id i from lists c room is = step_allowed key looked (λ _. 0) (looks (step slots i 0 0 none) (view from lists, c)) slots id i from lists c room
    (λ words acc next n found fit p mine g then m. (memory_looked key words acc next from i p is (subst (λ k. Appends acc next from (looked k)) found g) m, refl))

front_more : (lists : List (List (Action (MemoryOp CallAccess)))) (t : Action (MemoryOp CallAccess)) → 0 < length lists → front (added_to lists t) ≡ front lists ++ t ∷ []
front_more [] t room = absurd (omega arith)
front_more (l ∷ ls) t room = refl

clear_learned : (key : RunSetup) (target slots id i from mask : ℕ) (lists : List (List (Action (MemoryOp CallAccess)))) (c : List (ℕ × ℕ)) → 0 < length lists → target < key.geometry.peers → i ≡ control_word key target → mask ≡ 18446744073709551614 →
    Allows (TableInvariant key) slots id (view from lists, c) i (λ n. bit_and n mask) (clears key target (step slots i mask 0 none) (view from lists, c))
clear_learned key target slots id i from mask lists c room lt is without = step_allowed key (λ n. cleared target n) (λ n. bit_and n mask) (clears key target (step slots i mask 0 none) (view from lists, c)) slots id i from lists c room
    (λ words acc next n found fit p mine g then m. (
      subst (λ k. Memory key (set words i (bit_and n k)) next) (sym without) (subst (λ k. Memory key (set words i (without_first k)) next) (sym found) (memory_cleared key words acc next from i target p lt is (subst (λ k. Appends acc next from (cleared target k)) found g) m)),
      (refl, λ shot won. subst (MayRing target) (then ∙ sym (front_more lists (cleared target n) room)) (may_ring key (λ w. get_or words w 0) acc next from target n p lt g (interrupts_by key words acc fit m) shot won)),
    ))

pub clear_allowed : (key : RunSetup) (then : Step ℕ → Me ℕ View → ℕ → Me ℕ View → Type 0) (target slots id i from mask : ℕ) (lists : List (List (Action (MemoryOp CallAccess)))) (c : List (ℕ × ℕ)) → LearnsExactly then (clears key target) → 0 < length lists → target < key.geometry.peers →
    i ≡ control_word key target → mask ≡ 18446744073709551614 → Allows (TableInvariant key) slots id (view from lists, c) i (λ n. bit_and n mask) (then (step slots i mask 0 none) (view from lists, c))
clear_allowed key then target slots id i from mask lists c reports room lt is without =
    retold key slots id i (λ n. bit_and n mask) (view from lists, c) (clears key target (step slots i mask 0 none) (view from lists, c)) (then (step slots i mask 0 none) (view from lists, c))
    (λ n t h. (reports (step slots i mask 0 none) (view from lists, c) n t).1 h) (clear_learned key target slots id i from mask lists c room lt is without)
