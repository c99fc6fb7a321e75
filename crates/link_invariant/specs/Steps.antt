-- The actions of an end on the words of the region and on itself. It begins a call, makes the step
-- at its place, or is reset.
use Rattle.std.specs.Prelude.{ℕ, ◌≡◌, ◌≢◌, ◌+◌, ◌<◌, true}
use Rattle.split_ring.specs.declared.steps.Access.{Access}
use Rattle.split_ring.specs.declared.steps.Access.TheVariants as access
use Rattle.call_grammar.specs.Ends.{End, after_reset, end_after}
use Rattle.call_grammar.specs.Calls.{Call}
use Rattle.call_grammar.specs.Places.{Place, Closed, first_place, access_at, next_place, step_at, is_open}
use Rattle.link_invariant.specs.LinkConfig.{LinkConfig, section_of, config_of, IsGivenTo}

-- Words

-- The word `at` becomes `n`, and the others stay.
pub record Stored (memory after : ℕ → ℕ) (at n : ℕ) : Type 0 where
  pub here : after at ≡ n
  pub neighbour_word : (w : ℕ) → w ≢ at → after w ≡ memory w

-- The state word and the section of end p stay.
pub record IsUntouched (link_config : LinkConfig) (memory after : ℕ → ℕ) (p : ℕ) : Type 0 where
  pub state : after p ≡ memory p
  pub section : (j : ℕ) → j < link_config.words → after (section_of link_config p + j) ≡ memory (section_of link_config p + j)

-- Every word stays except the State word and the section of end p.
abbrev pub OnlyOwnChange : LinkConfig → (memory after : ℕ → ℕ) → ℕ → Type 0
OnlyOwnChange link_config memory after p = (w : ℕ) → w ≢ p → ((j : ℕ) → j < link_config.words → w ≢ section_of link_config p + j) → after w ≡ memory w

-- A read meets the word's value.
abbrev pub ReadsMemory : (ℕ → ℕ) → Access → ℕ → Type 0
ReadsMemory memory (access.Read word) value = value ≡ memory word
ReadsMemory memory _ value = Unit {0}

-- The words after an access of end p.
abbrev pub MemoryAfter : ℕ → (ℕ → ℕ) → Access → (ℕ → ℕ) → Type 0
MemoryAfter p memory (access.Write word written) after = Stored memory after word written
MemoryAfter p memory (access.State state) after = Stored memory after p state
MemoryAfter p memory _ after = after ≡ memory

-- Ends

-- End p becomes this end at this place, and the other stays.
pub record OnlyEndChanges (ends after_ends : ℕ → End) (places after_places : ℕ → Place) (p : ℕ) (end : End) (place : Place) : Type 0 where
  pub end_is : after_ends p ≡ end
  pub place_is : after_places p ≡ place
  pub ends_stay : (q : ℕ) → q ≢ p → after_ends q ≡ ends q
  pub places_stay : (q : ℕ) → q ≢ p → after_places q ≡ places q

-- End p, which has no open call, begins this call.
pub record BeginsCall (link_config : LinkConfig) (ends after_ends : ℕ → End) (places after_places : ℕ → Place) (p : ℕ) (call : Call) : Type 0 where
  pub given : IsGivenTo link_config call
  pub closed : places p ≡ Closed
  pub comes : OnlyEndChanges ends after_ends places after_places p (ends p) (first_place (config_of link_config p) (ends p) call)

-- End p makes the step at its place, and a read meets `value`.
pub record TakesStep (link_config : LinkConfig) (memory after : ℕ → ℕ) (ends after_ends : ℕ → End) (places after_places : ℕ → Place) (p value : ℕ) : Type 0 where
  pub opened : is_open (places p) ≡ true
  pub meets : ReadsMemory memory (access_at (config_of link_config p) (places p)) value
  pub leaves : MemoryAfter p memory (access_at (config_of link_config p) (places p)) after
  pub comes : OnlyEndChanges ends after_ends places after_places p (end_after (ends p) (step_at (config_of link_config p) (places p) value))
      (next_place (config_of link_config p) (places p) value)

-- The device of end p is reset.
pub record IsReset (memory after : ℕ → ℕ) (ends after_ends : ℕ → End) (places after_places : ℕ → Place) (p : ℕ) : Type 0 where
  pub stored : Stored memory after p 0
  pub comes : OnlyEndChanges ends after_ends places after_places p (after_reset (ends p)) Closed
