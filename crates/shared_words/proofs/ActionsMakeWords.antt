-- All words, as memory operations made the words of the region and of the sessions, and the facts
-- that interrupt words keep by it.
use Rattle.std.proofs.Common.{◌≡◌, ℕ, ◌+◌, ◌*◌, ◌<◌, ◌≤◌, inl, inr, List, [], get_or, refl, sym, ap, ◌∙◌, subst, arith}
use mathlib.Core.Logic.{dite}
use native.Mathlib.Decide.{dec_lt}
use Rattle.std.specs.Prelude.{nat_lt, if◌then◌else◌}
use Rattle.std.proofs.lemmas.Bool.{lt-ltb, le-ltb}
use Rattle.atomic_table.specs.Table.{State}
use Rattle.section_map.specs.Geometry.{word_count}
use Rattle.split_ring.specs.declared.steps.Access.{Access}
use Rattle.split_ring.specs.declared.steps.Access.TheVariants as access
use Rattle.link_invariant.specs.Steps.{Stored, ReadsMemory, MemoryAfter}
use Rattle.shared_words.specs.declared.run_setup.RunSetup.{RunSetup}
use Rattle.shared_words.specs.declared.view.View.{View}
use Rattle.shared_words.specs.RunSetups.{IsFit}
use Rattle.shared_words.specs.DerivedStates.{CallAccess, MemoryOp, called, numbered, restarted}
use Rattle.shared_words.specs.Actions.{Action, rang, looked, cleared, accesses_in}
use Rattle.shared_words.specs.Interrupts.{interrupt_word, control_word, session_word, words_at_start, Interrupts}
use Rattle.shared_words.specs.SharedMemory.{IsOwned, OperationsMade}
use Rattle.shared_words.specs.SharedMemory as made
use Rattle.shared_words.specs.ActionsMade.{ActionsMade}
use Rattle.shared_words.specs.ActionsMade as happened
use Rattle.shared_words.specs.Rules.{region, session_words, accesses_by, Memory, TableInvariant}
use Rattle.shared_words.proofs.LinkOfSetup.{within}
use Rattle.shared_words.proofs.Actions.{accesses_none, grows_access, grows_other}
use Rattle.shared_words.proofs.Regions.{region_at, region_past}
use Rattle.shared_words.proofs.InterruptsKept.{access_keeps, rang_keeps, looked_keeps, cleared_keeps}
use Rattle.shared_words.proofs.WordsAtStart.{start_region, start_session, start_interrupts}

-- The words of the region among all, and those of the sessions.

abbrev pub low_of : RunSetup → (ℕ → ℕ) → ℕ → ℕ
low_of key memory w = if nat_lt w (word_count key.geometry) then memory w else 0

abbrev pub last_of : RunSetup → (ℕ → ℕ) → ℕ → ℕ
last_of key memory p = memory (session_word key p)

low_at : (key : RunSetup) (memory : ℕ → ℕ) (w : ℕ) → w < word_count key.geometry → low_of key memory w ≡ memory w
low_at key memory w lt = ap (λ b. if b then memory w else 0) (lt-ltb w (word_count key.geometry) lt)

low_past : (key : RunSetup) (memory : ℕ → ℕ) (w : ℕ) → word_count key.geometry ≤ w → low_of key memory w ≡ 0
low_past key memory w le = ap (λ b. if b then memory w else 0) (le-ltb w (word_count key.geometry) le)

module _ (key : RunSetup) (memory after : ℕ → ℕ) where
  low_same : ((w : ℕ) → w < word_count key.geometry → after w ≡ memory w) → low_of key after ≡ low_of key memory
  low_same same = λ k w. (dite (dec_lt w (word_count key.geometry))
      (λ lt. low_at key after w lt ∙ (same w lt ∙ sym (low_at key memory w lt)))
      (λ ge. low_past key after w (omega arith) ∙ sym (low_past key memory w (omega arith)))) k

  low_stored : (i n : ℕ) → i < word_count key.geometry → Stored memory after i n → Stored (low_of key memory) (low_of key after) i n
  low_stored i n low st = record {
    here = low_at key after i low ∙ st.here;
    neighbour_word = λ w ne. dite (dec_lt w (word_count key.geometry))
        (λ lt. low_at key after w lt ∙ (st.neighbour_word w ne ∙ sym (low_at key memory w lt)))
        (λ ge. low_past key after w (omega arith) ∙ sym (low_past key memory w (omega arith)));
  }

  last_same : (i n : ℕ) → i < word_count key.geometry + 2 * key.geometry.peers → Stored memory after i n → last_of key after ≡ last_of key memory
  last_same i n lt st = λ k p. st.neighbour_word (session_word key p) (λ e. omega arith) k

  -- An access is to words of the region.
  low_leaves : IsFit key → (p : ℕ) (a : Access) → p < key.geometry.peers → IsOwned key p a → MemoryAfter p memory a after → MemoryAfter p (low_of key memory) a (low_of key after)
  low_leaves fit p (access.Read word) lt own leaves = ap (low_of key) leaves
  low_leaves fit p (access.Write word value) lt own leaves = low_stored word value (within key p word fit lt (inl own)) leaves
  low_leaves fit p (access.State state) lt own leaves = low_stored p state (within key p p fit lt (inr refl)) leaves
  low_leaves fit p (access.Ring target vector) lt own leaves = ap (low_of key) leaves
  low_leaves fit p access.Nothing lt own leaves = ap (low_of key) leaves

  pub high_leaves : IsFit key → (p : ℕ) (a : Access) → p < key.geometry.peers → IsOwned key p a → MemoryAfter p memory a after → (w : ℕ) → word_count key.geometry ≤ w → after w ≡ memory w
  high_leaves fit p (access.Read word) lt own leaves w le = ap (λ (m : ℕ → ℕ). m w) leaves
  high_leaves fit p (access.Write word value) lt own leaves w le = leaves.neighbour_word w (λ e. let low = within key p word fit lt (inl own) in omega arith)
  high_leaves fit p (access.State state) lt own leaves w le = leaves.neighbour_word w (λ e. let low = within key p p fit lt (inr refl) in omega arith)
  high_leaves fit p (access.Ring target vector) lt own leaves w le = ap (λ (m : ℕ → ℕ). m w) leaves
  high_leaves fit p access.Nothing lt own leaves w le = ap (λ (m : ℕ → ℕ). m w) leaves

low_meets : (key : RunSetup) (memory : ℕ → ℕ) (p : ℕ) (a : Access) (value : ℕ) → IsOwned key p a → ReadsMemory memory a value → ReadsMemory (low_of key memory) a value
low_meets key memory p (access.Read word) value own meets = meets ∙ sym (low_at key memory word own)
low_meets key memory p (access.Write word written) value own meets = tt
low_meets key memory p (access.State state) value own meets = tt
low_meets key memory p (access.Ring target vector) value own meets = tt
low_meets key memory p access.Nothing value own meets = tt

-- Memory operations alone

abbrev MadeOf : RunSetup → (ℕ → ℕ) → (ℕ → List (Action (MemoryOp CallAccess))) → Type 0
MadeOf key memory acc = OperationsMade key (low_of key memory) (last_of key memory) (accesses_by acc)

-- An action that is no memory operation, in a word between those of the region and of the sessions.
made_besides : (key : RunSetup) (memory after : ℕ → ℕ) (acc next : ℕ → List (Action (MemoryOp CallAccess))) (i n : ℕ) → word_count key.geometry ≤ i → i < word_count key.geometry + 2 * key.geometry.peers → Stored memory after i n → accesses_by next ≡ accesses_by acc →
    MadeOf key memory acc → MadeOf key after next
made_besides key memory after acc next i n le lt st lists m = let low = low_same key memory after (λ w below. st.neighbour_word w (λ e. omega arith)) in let last = last_same key memory after i n lt st in
    subst (λ (ls : ℕ → List (MemoryOp CallAccess)). OperationsMade key (low_of key after) (last_of key after) ls) (sym lists) (subst (λ (ws : ℕ → ℕ). OperationsMade key (low_of key after) ws (accesses_by acc)) (sym last) (subst (λ (ws : ℕ → ℕ). OperationsMade key ws (last_of key memory) (accesses_by acc)) (sym low) m))

pub made_of : (key : RunSetup) → IsFit key → (memory : ℕ → ℕ) (acc : ℕ → List (Action (MemoryOp CallAccess))) → ActionsMade key memory acc → MadeOf key memory acc
made_of key fit memory acc (happened.starts _ _ words none) = made.starts (low_of key memory) (last_of key memory) (accesses_by acc)
    (λ w. dite (dec_lt w (word_count key.geometry)) (λ lt. low_at key memory w lt ∙ (words w ∙ start_region key w lt)) (λ ge. low_past key memory w (omega arith)))
    (λ p. words (session_word key p) ∙ start_session key p) (λ p. ap accesses_in (none p) ∙ accesses_none)
made_of key fit after next (happened.makes memory _ acc _ p t h lt may meets leaves g) = let was = made_of key fit memory acc h in
    let last : last_of key after ≡ last_of key memory = λ k q. high_leaves key memory after fit p t.access lt may.owned leaves (session_word key q) (omega arith) k in
    subst (λ (ws : ℕ → ℕ). OperationsMade key (low_of key after) ws (accesses_by next)) (sym last)
    (made.makes (low_of key memory) (low_of key after) (last_of key memory) (accesses_by acc) (accesses_by next) p t was lt may (low_meets key memory p t.access t.value may.owned meets) (low_leaves key memory after fit p t.access lt may.owned leaves) (grows_access acc next p (called t) g))
made_of key fit after next (happened.stores memory _ acc _ p number h lt may st g) = let was = made_of key fit memory acc h in
    subst (λ (ws : ℕ → ℕ). OperationsMade key ws (last_of key after) (accesses_by next)) (sym (low_same key memory after (λ w below. st.neighbour_word w (λ e. omega arith))))
    (made.stores (low_of key memory) (last_of key memory) (last_of key after) (accesses_by acc) (accesses_by next) p number was may (record { here = st.here; neighbour_word = λ q ne. st.neighbour_word (session_word key q) (λ e. ne (omega arith)) }) (grows_access acc next p (numbered number) g))
made_of key fit memory next (happened.loads _ acc _ p h lt may g) =
    made.loads (low_of key memory) (last_of key memory) (accesses_by acc) (accesses_by next) p (made_of key fit memory acc h) may (grows_access acc next p _ g)
made_of key fit after next (happened.resets memory _ acc _ p h lt st g) = let inside = within key p p fit lt (inr refl) in
    subst (λ (ws : ℕ → ℕ). OperationsMade key (low_of key after) ws (accesses_by next)) (sym (last_same key memory after p 0 (omega arith) st))
    (made.resets (low_of key memory) (low_of key after) (last_of key memory) (accesses_by acc) (accesses_by next) p (made_of key fit memory acc h) lt (low_stored key memory after p 0 inside st) (grows_access acc next p restarted g))
made_of key fit after next (happened.rings memory _ acc _ p target bit h lt there low may st g) =
    made_besides key memory after acc next (interrupt_word key target) _ (omega arith) (omega arith) st (grows_other acc next p (rang target bit) refl g) (made_of key fit memory acc h)
made_of key fit after next (happened.looks memory _ acc _ p h lt st g) =
    made_besides key memory after acc next (interrupt_word key p) _ (omega arith) (omega arith) st (grows_other acc next p (looked (memory (interrupt_word key p))) refl g) (made_of key fit memory acc h)
made_of key fit after next (happened.clears memory _ acc _ p target h lt there st g) =
    made_besides key memory after acc next (control_word key target) _ (omega arith) (omega arith) st (grows_other acc next p (cleared target (memory (control_word key target))) refl g) (made_of key fit memory acc h)

-- Interrupts

pub interrupts_of : (key : RunSetup) → IsFit key → (memory : ℕ → ℕ) (acc : ℕ → List (Action (MemoryOp CallAccess))) → ActionsMade key memory acc → Interrupts key memory acc
interrupts_of key fit memory acc (happened.starts _ _ words none) = let from : memory ≡ (λ w. get_or (words_at_start key) w 0) = λ k w. words w k in let lists : acc ≡ (λ _. []) = λ k p. none p k in
    subst (λ (ls : ℕ → List (Action (MemoryOp CallAccess))). Interrupts key memory ls) (sym lists) (subst (λ (m : ℕ → ℕ). Interrupts {A = MemoryOp CallAccess} key m (λ _. [])) (sym from) (start_interrupts key))
interrupts_of key fit after next (happened.makes memory _ acc _ p t h lt may meets leaves g) =
    access_keeps key memory after acc next p (called t) lt (λ w le high. high_leaves key memory after fit p t.access lt may.owned leaves w le) g (interrupts_of key fit memory acc h)
interrupts_of key fit after next (happened.stores memory _ acc _ p number h lt may st g) =
    access_keeps key memory after acc next p (numbered number) lt (λ w le high. st.neighbour_word w (λ e. omega arith)) g (interrupts_of key fit memory acc h)
interrupts_of key fit memory next (happened.loads _ acc _ p h lt may g) =
    access_keeps key memory memory acc next p _ lt (λ w le high. refl) g (interrupts_of key fit memory acc h)
interrupts_of key fit after next (happened.resets memory _ acc _ p h lt st g) = let inside = within key p p fit lt (inr refl) in
    access_keeps key memory after acc next p restarted lt (λ w le high. st.neighbour_word w (λ e. omega arith)) g (interrupts_of key fit memory acc h)
interrupts_of key fit after next (happened.rings memory _ acc _ p target bit h lt there low may st g) = rang_keeps key memory after acc next p target bit lt st may g (interrupts_of key fit memory acc h)
interrupts_of key fit after next (happened.looks memory _ acc _ p h lt st g) = looked_keeps key memory after acc next p (memory (interrupt_word key p)) lt refl st g (interrupts_of key fit memory acc h)
interrupts_of key fit after next (happened.clears memory _ acc _ p target h lt there st g) =
    cleared_keeps key memory after acc next p target (memory (control_word key target)) 18446744073709551614 lt refl refl st g (interrupts_of key fit memory acc h)

-- Of a table

region_low : (key : RunSetup) (words : List ℕ) → low_of key (λ w. get_or words w 0) ≡ region key words
region_low key words = λ k w. (dite (dec_lt w (word_count key.geometry))
    (λ lt. low_at key (λ v. get_or words v 0) w lt ∙ sym (region_at key words w lt))
    (λ ge. low_past key (λ v. get_or words v 0) w (omega arith) ∙ sym (region_past key words w (omega arith)))) k

pub made_by : (key : RunSetup) (words : List ℕ) (acc : ℕ → List (Action (MemoryOp CallAccess))) → IsFit key → Memory key words acc → OperationsMade key (region key words) (session_words key words) (accesses_by acc)
made_by key words acc fit m = subst (λ (ws : ℕ → ℕ). OperationsMade key ws (session_words key words) (accesses_by acc)) (region_low key words) (made_of key fit (λ w. get_or words w 0) acc m.happened)

pub interrupts_by : (key : RunSetup) (words : List ℕ) (acc : ℕ → List (Action (MemoryOp CallAccess))) → IsFit key → Memory key words acc → Interrupts key (λ w. get_or words w 0) acc
interrupts_by key words acc fit m = interrupts_of key fit (λ w. get_or words w 0) acc m.happened

pub made_in : (key : RunSetup) (s : State ℕ View) (kept : TableInvariant key s) → OperationsMade key (region key s.words) (session_words key s.words) (accesses_by kept.acc)
made_in key s kept = made_by key s.words kept.acc kept.fit kept.memory
