-- The states of all words of a table, one action after another. Each action is a step on one word,
-- and one more element in its peer's list.
use Rattle.std.specs.Prelude.{ℕ, ◌≡◌, ◌-◌, ◌^◌, ◌<◌, List, [], bit_or, bit_and, slice_index}
use Rattle.link_invariant.specs.Steps.{Stored, ReadsMemory, MemoryAfter}
use Rattle.shared_words.specs.declared.run_setup.RunSetup.{RunSetup}
use Rattle.shared_words.specs.DerivedStates.{CallAccess, MemoryOp, called, numbered, carried, restarted}
use Rattle.shared_words.specs.Actions.{Action, accessed, rang, looked, cleared, accesses_in}
use Rattle.shared_words.specs.Interrupts.{interrupt_word, control_word, session_word, words_at_start, IsOneShot, MayRing}
use Rattle.shared_words.specs.SharedMemory.{Appends, MayTake, MayStoreSession, MayLoadSession}

-- A word without its bit 0.
abbrev pub without_first : ℕ → ℕ
without_first n = bit_and n 18446744073709551614

-- The words are those of the start and all lists are empty. Or a peer makes one more action, by
-- which every word stays except the one that it stores in:
-- * an access: a read gives the word, and a store changes that word;
-- * a store of its session word, a load of the other's, or a reset: a store of 0 in its state word;
-- * a ring: one bit is set in the interrupt word of the target;
-- * a look: it finds the peer's own interrupt word, which becomes 0;
-- * a clear: it finds the target's Interrupt Control, which loses bit 0
pub data ActionsMade (key : RunSetup) : (memory : ℕ → ℕ) → (ℕ → List (Action (MemoryOp CallAccess))) → Type 0 where
  starts : (memory : ℕ → ℕ) (acc : ℕ → List (Action (MemoryOp CallAccess))) →
      ((w : ℕ) → memory w ≡ slice_index (words_at_start key) w) → ((p : ℕ) → acc p ≡ []) →
      ActionsMade key memory acc
  makes : (memory after : ℕ → ℕ) (acc next : ℕ → List (Action (MemoryOp CallAccess))) (p : ℕ) (t : CallAccess) →
      ActionsMade key memory acc → p < key.geometry.peers →
      MayTake key p (accesses_in (acc p)) t → ReadsMemory memory t.access t.value → MemoryAfter p memory t.access after →
      Appends acc next p (accessed (called t)) →
      ActionsMade key after next
  stores : (memory after : ℕ → ℕ) (acc next : ℕ → List (Action (MemoryOp CallAccess))) (p number : ℕ) → ActionsMade key memory acc → p < key.geometry.peers →
      MayStoreSession key p (accesses_in (acc p)) number → Stored memory after (session_word key p) number → Appends acc next p (accessed (numbered number)) →
      ActionsMade key after next
  loads : (memory : ℕ → ℕ) (acc next : ℕ → List (Action (MemoryOp CallAccess))) (p : ℕ) → ActionsMade key memory acc → p < key.geometry.peers →
      MayLoadSession key p (accesses_in (acc p)) → Appends acc next p (accessed (carried (memory (session_word key (1 - p))))) → ActionsMade key memory next
  resets : (memory after : ℕ → ℕ) (acc next : ℕ → List (Action (MemoryOp CallAccess))) (p : ℕ) → ActionsMade key memory acc → p < key.geometry.peers →
      Stored memory after p 0 → Appends acc next p (accessed restarted) → ActionsMade key after next
  rings : (memory after : ℕ → ℕ) (acc next : ℕ → List (Action (MemoryOp CallAccess))) (p target bit : ℕ) → ActionsMade key memory acc → p < key.geometry.peers →
      target < key.geometry.peers → bit < 64 → (IsOneShot key target → MayRing target (acc p)) →
      Stored memory after (interrupt_word key target) (bit_or (memory (interrupt_word key target)) (2 ^ bit)) → Appends acc next p (rang target bit) →
      ActionsMade key after next
  looks : (memory after : ℕ → ℕ) (acc next : ℕ → List (Action (MemoryOp CallAccess))) (p : ℕ) → ActionsMade key memory acc → p < key.geometry.peers →
      Stored memory after (interrupt_word key p) 0 → Appends acc next p (looked (memory (interrupt_word key p))) → ActionsMade key after next
  clears : (memory after : ℕ → ℕ) (acc next : ℕ → List (Action (MemoryOp CallAccess))) (p target : ℕ) → ActionsMade key memory acc → p < key.geometry.peers →
      target < key.geometry.peers → Stored memory after (control_word key target) (without_first (memory (control_word key target))) →
      Appends acc next p (cleared target (memory (control_word key target))) → ActionsMade key after next
