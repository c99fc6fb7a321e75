-- The counts of rings and looks of interrupt words, and of clears of Interrupt Control.
use Rattle.std.specs.Prelude.{ℕ, zero, suc, ◌≡◌, ◌+◌, ◌*◌, ◌<◌, ◌≤◌, Bool, true, false, if◌then◌else◌, ◌==◌, ◌&&◌, List, [], ◌∷◌, ◌++◌, take, replicate, get_or}
use Rattle.std.specs.Int.{bit_at}
use Rattle.section_map.specs.Geometry.{word_count}
use Rattle.shared_words.specs.declared.run_setup.RunSetup.{RunSetup}
use Rattle.shared_words.specs.Actions.{Action, rang, looked, cleared}

-- The words after the region's words.

-- A peer's interrupt word, and the word of its Interrupt Control, which follows it.
abbrev pub interrupt_word : RunSetup → ℕ → ℕ
interrupt_word key target = word_count key.geometry + 2 * target

abbrev pub control_word : RunSetup → ℕ → ℕ
control_word key target = word_count key.geometry + 2 * target + 1

-- The session word of each link peer, after these words of all peers.
abbrev pub session_word : RunSetup → ℕ → ℕ
session_word key p = word_count key.geometry + 2 * key.geometry.peers + p

-- The number of words.
abbrev pub all_words : RunSetup → ℕ
all_words key = word_count key.geometry + 2 * key.geometry.peers + 2

abbrev pub one_if : Bool → ℕ
one_if b = if b then 1 else 0

-- the flag of a peer
abbrev pub flag_of : List Bool → ℕ → Bool
flag_of flags p = get_or flags p false

-- the words for interrupts of the peers below n before any action, and all words
unfoldable pub interrupts_at_start : (enabled : List Bool) (n : ℕ) → List ℕ
interrupts_at_start enabled zero = []
interrupts_at_start enabled (suc n) = interrupts_at_start enabled n ++ 0 ∷ one_if (flag_of enabled n) ∷ []

abbrev pub words_at_start : RunSetup → List ℕ
words_at_start key = (replicate (word_count key.geometry) 0 ++ interrupts_at_start key.enabled key.geometry.peers) ++ 0 ∷ 0 ∷ []

abbrev pub IsOneShot : RunSetup → ℕ → Type 0
IsOneShot key target = flag_of key.one_shot target ≡ true

-- Counts

-- The sum of a count over actions, and over the peers below n.
unfoldable pub count_in : {A : Type 0} → (Action A → ℕ) → List (Action A) → ℕ
count_in f [] = 0
count_in f (t ∷ list) = f t + count_in f list

unfoldable pub sum_below : ℕ → (ℕ → ℕ) → ℕ
sum_below zero f = 0
sum_below (suc n) f = sum_below n f + f n

-- the action sets this bit at this target
unfoldable pub rings_bit : {A : Type 0} → (target bit : ℕ) → Action A → ℕ
rings_bit target bit (rang at b) = one_if ((at == target) && (b == bit))
rings_bit target bit _ = 0

-- The action sets any bit at this target.
unfoldable pub rings_target : {A : Type 0} → (target : ℕ) → Action A → ℕ
rings_target target (rang at b) = one_if (at == target)
rings_target target _ = 0

-- The action is a look that found this bit.
unfoldable pub finds_bit : {A : Type 0} → (bit : ℕ) → Action A → ℕ
finds_bit bit (looked found) = bit_at found bit
finds_bit bit _ = 0

-- The action is a clear at this target that found its bit set.
unfoldable pub clears_set_bit : {A : Type 0} → (target : ℕ) → Action A → ℕ
clears_set_bit target (cleared at found) = if at == target then bit_at found 0 else 0
clears_set_bit target _ = 0

-- The action is a clear at this target.
unfoldable pub clears_target : {A : Type 0} → (target : ℕ) → Action A → ℕ
clears_target target (cleared at found) = one_if (at == target)
clears_target target _ = 0

-- The invariant of the interrupt words.

-- Each ring at this target follows a clear that found its bit set, one ring for each clear.
abbrev pub FollowsClears : {A : Type 0} → (target : ℕ) → List (Action A) → Type 0
FollowsClears target list = (n : ℕ) → count_in (rings_target target) (take n list) ≤ count_in (clears_set_bit target) (take n list)

-- One more ring may be made.
abbrev pub MayRing : {A : Type 0} → (target : ℕ) → List (Action A) → Type 0
MayRing target list = count_in (rings_target target) list < count_in (clears_set_bit target) list

-- For each target and bit the looks that found the bit, plus one if it is set now, are at most all
-- rings. Bit 0 of the target's Interrupt Control, plus the number of clears of all peers that found
-- it set, equals this bit at the start. At a one-shot target each ring comes after such a clear.
pub record Interrupts {A : Type 0} (key : RunSetup) (memory : ℕ → ℕ) (acc : ℕ → List (Action A)) : Type 0 where
  pub rung : (target bit : ℕ) → target < key.geometry.peers →
      count_in (finds_bit bit) (acc target) + bit_at (memory (interrupt_word key target)) bit ≤ sum_below key.geometry.peers (λ p. count_in (rings_bit target bit) (acc p))
  pub control : (target : ℕ) → target < key.geometry.peers →
      bit_at (memory (control_word key target)) 0 + sum_below key.geometry.peers (λ p. count_in (clears_set_bit target) (acc p)) ≡ one_if (flag_of key.enabled target)
  pub leave : (target p : ℕ) → target < key.geometry.peers → p < key.geometry.peers → IsOneShot key target → FollowsClears target (acc p)

-- Of each target and bit: if any peer rang it, it is set now or a look found it. If any peer
-- cleared a target's Interrupt Control, its bit 0 isn't set.
pub record Doorbells {A : Type 0} (key : RunSetup) (memory : ℕ → ℕ) (acc : ℕ → List (Action A)) : Type 0 where
  pub refines : (target bit : ℕ) → target < key.geometry.peers → 1 ≤ sum_below key.geometry.peers (λ p. count_in (rings_bit target bit) (acc p)) →
      1 ≤ bit_at (memory (interrupt_word key target)) bit + count_in (finds_bit bit) (acc target)
  pub shut : (target : ℕ) → target < key.geometry.peers → 1 ≤ sum_below key.geometry.peers (λ p. count_in (clears_target target) (acc p)) →
      bit_at (memory (control_word key target)) 0 ≡ 0

-- Of the lists alone: no peer finds a bit more often than the bit was rung. A one-shot peer finds
-- one bit at most, and once. Each ring at a one-shot peer comes after a clear that found its bit
-- set.
pub record AreRung {A : Type 0} (key : RunSetup) (acc : ℕ → List (Action A)) : Type 0 where
  pub rung : (target bit : ℕ) → target < key.geometry.peers → count_in (finds_bit bit) (acc target) ≤ sum_below key.geometry.peers (λ p. count_in (rings_bit target bit) (acc p))
  pub once : (target : ℕ) → target < key.geometry.peers → IsOneShot key target → sum_below 64 (λ bit. count_in (finds_bit bit) (acc target)) ≤ 1
  pub behind : (target p : ℕ) → target < key.geometry.peers → p < key.geometry.peers → IsOneShot key target → FollowsClears target (acc p)
