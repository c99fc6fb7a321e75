-- The actions of peers on the words.
use Rattle.std.specs.Prelude.{ℕ, List, [], ◌∷◌}
use Rattle.std.specs.List.{flat_map}

-- One action of a peer:
-- * `accessed`: an access to a word of the region or of the sessions;
-- * `rang`: bit `bit` is set in the interrupt word of the peer `target`;
-- * `looked`: a look, which finds `found` in the peer's own interrupt word and sets that word to 0;
-- * `cleared`: a clear of bit 0 of `target`'s Interrupt Control, in which the clear finds `found`
pub data Action (A : Type 0) : Type 0 where
  accessed : (access : A) → Action A
  rang : (target bit : ℕ) → Action A
  looked : (found : ℕ) → Action A
  cleared : (target found : ℕ) → Action A

-- The same action, with its access mapped.
abbrev pub seen_by : {A B : Type 0} → (A → B) → Action A → Action B
seen_by f (accessed a) = accessed (f a)
seen_by f (rang target bit) = rang target bit
seen_by f (looked found) = looked found
seen_by f (cleared target found) = cleared target found

-- The accesses to the region among the actions.
abbrev pub access_in : {A : Type 0} → Action A → List A
access_in (accessed a) = a ∷ []
access_in other = []

unfoldable pub accesses_in : {A : Type 0} → List (Action A) → List A
accesses_in actions = flat_map access_in actions
