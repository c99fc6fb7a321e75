-- All that an end does preserves the invariant of one end, and the pair of two honest ends.
use Rattle.std.specs.Prelude.{◌≡◌, ◌≢◌, ℕ, ◌<◌, true}
use Rattle.split_ring.specs.declared.steps.Access.TheVariants as access
use Rattle.link_handshake.specs.declared.Phase.TheVariants.{Reset}
use Rattle.call_grammar.specs.Ends.{End, fresh, after_reset, end_after}
use Rattle.call_grammar.specs.Calls.{Call}
use Rattle.call_grammar.specs.Places.{Place, Closed, first_place, access_at, next_place, step_at, is_open}
use Rattle.link_invariant.specs.LinkConfig.{LinkConfig, IsLinkConfig, config_of, IsGivenTo}
use Rattle.link_invariant.specs.Steps.{Stored, IsUntouched, OnlyOwnChange, MemoryAfter, BeginsCall, TakesStep, IsReset}
use Rattle.link_invariant.specs.EndInvariant.{EndInvariant}
use Rattle.link_invariant.specs.Pair.{Pair}

-- An honest end preserves its invariant as a call begins, at each step for all values read, at a
-- reset, and as other words change. Its steps change no other word, and no word of its section
-- while it is in RESET.
pub record EndInvariantIsKept : Type 0 where
  pub begins : (link_config : LinkConfig) (p : ℕ) (memory : ℕ → ℕ) (end : End) (call : Call) → IsLinkConfig link_config → IsGivenTo link_config call →
      EndInvariant link_config memory p end Closed → EndInvariant link_config memory p end (first_place (config_of link_config p) end call)
  pub steps : (link_config : LinkConfig) (p : ℕ) (memory after : ℕ → ℕ) (end : End) (place : Place) (value : ℕ) → IsLinkConfig link_config → p < 2 → is_open place ≡ true →
      MemoryAfter p memory (access_at (config_of link_config p) place) after → EndInvariant link_config memory p end place →
      EndInvariant link_config after p (end_after end (step_at (config_of link_config p) place value)) (next_place (config_of link_config p) place value)
  pub own : (link_config : LinkConfig) (p : ℕ) (memory after : ℕ → ℕ) (end : End) (place : Place) → IsLinkConfig link_config → p < 2 →
      MemoryAfter p memory (access_at (config_of link_config p) place) after → EndInvariant link_config memory p end place → OnlyOwnChange link_config memory after p
  pub quiet : (link_config : LinkConfig) (p : ℕ) (memory : ℕ → ℕ) (end : End) (place : Place) (word value : ℕ) → EndInvariant link_config memory p end place →
      end.handshake.phase ≡ Reset → access_at (config_of link_config p) place ≢ access.Write word value
  pub resets : (link_config : LinkConfig) (p : ℕ) (memory after : ℕ → ℕ) (end : End) (place : Place) → IsLinkConfig link_config → p < 2 → Stored memory after p 0 →
      EndInvariant link_config memory p end place → EndInvariant link_config after p (after_reset end) Closed
  pub others : (link_config : LinkConfig) (p : ℕ) (memory after : ℕ → ℕ) (end : End) (place : Place) → IsLinkConfig link_config → IsUntouched link_config memory after p →
      EndInvariant link_config memory p end place → EndInvariant link_config after p end place

-- The initial ends are a pair. Two honest ends preserve the pair as a call begins, at each step of
-- either, at a reset, and as words change that are neither's.
pub record PairIsKept : Type 0 where
  pub starts : (link_config : LinkConfig) (memory : ℕ → ℕ) (ends : ℕ → End) (places : ℕ → Place) →
      ((w : ℕ) → memory w ≡ 0) → ((p : ℕ) → ends p ≡ fresh) → ((p : ℕ) → places p ≡ Closed) → Pair link_config memory ends places
  pub begins : (link_config : LinkConfig) (memory : ℕ → ℕ) (ends after_ends : ℕ → End) (places after_places : ℕ → Place) (p : ℕ) (call : Call) → IsLinkConfig link_config →
      p < 2 → BeginsCall link_config ends after_ends places after_places p call → Pair link_config memory ends places → Pair link_config memory after_ends after_places
  pub steps : (link_config : LinkConfig) (memory after : ℕ → ℕ) (ends after_ends : ℕ → End) (places after_places : ℕ → Place) (p value : ℕ) → IsLinkConfig link_config → p < 2 →
      TakesStep link_config memory after ends after_ends places after_places p value → Pair link_config memory ends places → Pair link_config after after_ends after_places
  pub resets : (link_config : LinkConfig) (memory after : ℕ → ℕ) (ends after_ends : ℕ → End) (places after_places : ℕ → Place) (p : ℕ) → IsLinkConfig link_config → p < 2 →
      IsReset memory after ends after_ends places after_places p → Pair link_config memory ends places → Pair link_config after after_ends after_places
  pub others : (link_config : LinkConfig) (memory after : ℕ → ℕ) (ends : ℕ → End) (places : ℕ → Place) → IsLinkConfig link_config →
      ((q : ℕ) → q < 2 → IsUntouched link_config memory after q) → Pair link_config memory ends places → Pair link_config after ends places
