-- The states of the words of the region and of the sessions: one memory operation after another,
-- each in the list of its peer.
use Rattle.std.specs.Prelude.{ℕ, ◌≡◌, ◌≢◌, ◌+◌, ◌-◌, ◌<◌, true, List, [], ◌∷◌, ◌++◌}
use Rattle.section_map.specs.Geometry.{word_count}
use Rattle.section_map.specs.MayWrite.{MayWrite}
use Rattle.split_ring.specs.declared.steps.Access.{Access}
use Rattle.split_ring.specs.declared.steps.Access.TheVariants as access
use Rattle.call_grammar.specs.Places.{WritingState}
use Rattle.link_invariant.specs.Steps.{Stored, ReadsMemory, MemoryAfter}
use Rattle.shared_words.specs.declared.run_setup.RunSetup.{RunSetup}
use Rattle.shared_words.specs.RunSetups.{honest_of}
use Rattle.shared_words.specs.DerivedStates.{CallAccess, MemoryOp, called, numbered, carried, restarted, derived_state, IsNext}

-- An access that a peer may make: a read, a store in its own or the common section, or a write of
-- State.
abbrev pub IsOwned : RunSetup → ℕ → Access → Type 0
IsOwned key p (access.Read word) = word < word_count key.geometry
IsOwned key p (access.Write word value) = MayWrite key.geometry p word
IsOwned key p other = Unit {0}

-- Peer p may make this access after these memory operations. For an honest link peer it is the next
-- one of its calls.
pub record MayTake (key : RunSetup) (p : ℕ) (list : List (MemoryOp CallAccess)) (t : CallAccess) : Type 0 where
  pub owned : IsOwned key p t.access
  pub next : honest_of key p ≡ true → IsNext key p (derived_state key p list) t.begins t.access

-- Peer p may store this number in its session word: it is honest, about to set READY, and opened
-- one session fewer.
pub record MayStoreSession (key : RunSetup) (p : ℕ) (list : List (MemoryOp CallAccess)) (number : ℕ) : Type 0 where
  pub honest : honest_of key p ≡ true
  pub place : (derived_state key p list).place ≡ WritingState 2
  pub next : number ≡ (derived_state key p list).numbers.log.opened + 1

-- Peer p may load the other's session word: it is honest and about to set RUN.
pub record MayLoadSession (key : RunSetup) (p : ℕ) (list : List (MemoryOp CallAccess)) : Type 0 where
  pub honest : honest_of key p ≡ true
  pub place : (derived_state key p list).place ≡ WritingState 3

-- The list of peer p has one more element, and the others stay.
pub record Appends {A : Type 0} (acc next : ℕ → List A) (p : ℕ) (t : A) : Type 0 where
  pub here : next p ≡ acc p ++ t ∷ []
  pub neighbour_word : (q : ℕ) → q ≢ p → next q ≡ acc q

-- All words are 0 and all lists are empty. Or a peer makes an access: a read returns the word, and
-- a store changes that word alone. Or it stores its session word; or it loads the other's; or its
-- device is reset, by a store of 0 in its state word.
pub data OperationsMade (key : RunSetup) : (memory words : ℕ → ℕ) → (ℕ → List (MemoryOp CallAccess)) → Type 0 where
  starts : (memory words : ℕ → ℕ) (acc : ℕ → List (MemoryOp CallAccess)) → ((w : ℕ) → memory w ≡ 0) → ((p : ℕ) → words p ≡ 0) → ((p : ℕ) → acc p ≡ []) →
      OperationsMade key memory words acc
  makes : (memory after words : ℕ → ℕ) (acc next : ℕ → List (MemoryOp CallAccess)) (p : ℕ) (t : CallAccess) →
      OperationsMade key memory words acc → p < key.geometry.peers →
      MayTake key p (acc p) t → ReadsMemory memory t.access t.value → MemoryAfter p memory t.access after → Appends acc next p (called t) →
      OperationsMade key after words next
  stores : (memory words now : ℕ → ℕ) (acc next : ℕ → List (MemoryOp CallAccess)) (p number : ℕ) →
      OperationsMade key memory words acc → MayStoreSession key p (acc p) number →
      Stored words now p number → Appends acc next p (numbered number) → OperationsMade key memory now next
  loads : (memory words : ℕ → ℕ) (acc next : ℕ → List (MemoryOp CallAccess)) (p : ℕ) → OperationsMade key memory words acc → MayLoadSession key p (acc p) →
      Appends acc next p (carried (words (1 - p))) → OperationsMade key memory words next
  resets : (memory after words : ℕ → ℕ) (acc next : ℕ → List (MemoryOp CallAccess)) (p : ℕ) → OperationsMade key memory words acc → p < key.geometry.peers →
      Stored memory after p 0 → Appends acc next p restarted → OperationsMade key after words next
