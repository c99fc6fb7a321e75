-- The states of the two ends, each honest or not, while peers run. The honest ones begin calls,
-- take their steps, number their sessions and are reset.
use Rattle.std.specs.Prelude.{ℕ, ◌≡◌, ◌≢◌, ◌+◌, ◌-◌, ◌<◌, Bool, true}
use Rattle.call_grammar.specs.Calls.{Call, Stop}
use Rattle.call_grammar.specs.Places.{Closed, WritingState, access_at, is_open}
use Rattle.link_invariant.specs.LinkConfig.{LinkConfig, config_of, IsGivenTo}
use Rattle.link_invariant.specs.Steps.{Stored, IsUntouched, ReadsMemory, MemoryAfter}
use Rattle.pair_sessions.specs.Numbers.{IsNumbered}
use Rattle.shared_words.specs.DerivedStates.{DerivedState, initial_derived_state, begun, moved, numbers_stored, numbers_loaded, derived_state_after_reset}

-- End p changes to this state, and the other stays.
pub record OnlyComes (st next : ℕ → DerivedState) (p : ℕ) (s : DerivedState) : Type 0 where
  pub here : next p ≡ s
  pub neighbour_word : (q : ℕ) → q ≢ p → next q ≡ st q

-- A run of the ends from their start on. An honest end begins a call if no call is open, takes the
-- step at its place, or is reset. An honest end stores its session word before it sets READY, and
-- loads the other end's session word before it sets RUN. Words that belong to no honest end may
-- change.
pub data Reached (link_config : LinkConfig) (honest : ℕ → Bool) : (memory words : ℕ → ℕ) → (ℕ → DerivedState) → Type 0 where
  starts : (memory words : ℕ → ℕ) (st : ℕ → DerivedState) → ((w : ℕ) → memory w ≡ 0) → ((p : ℕ) → words p ≡ 0) → ((p : ℕ) → st p ≡ initial_derived_state) →
      Reached link_config honest memory words st
  begins : (memory words : ℕ → ℕ) (st next : ℕ → DerivedState) (p : ℕ) (call : Call) → Reached link_config honest memory words st → p < 2 → honest p ≡ true →
      (st p).place ≡ Closed → call ≢ Stop → IsGivenTo link_config call → OnlyComes st next p (begun (config_of link_config p) (st p) call) →
      Reached link_config honest memory words next
  steps : (memory after words : ℕ → ℕ) (st next : ℕ → DerivedState) (p value : ℕ) → Reached link_config honest memory words st → p < 2 → honest p ≡ true →
      is_open (st p).place ≡ true → ReadsMemory memory (access_at (config_of link_config p) (st p).place) value → MemoryAfter p memory (access_at (config_of link_config p) (st p).place) after →
      IsNumbered (st p).numbers (access_at (config_of link_config p) (st p).place) → OnlyComes st next p (moved (config_of link_config p) (st p) value) →
      Reached link_config honest after words next
  resets : (memory after words : ℕ → ℕ) (st next : ℕ → DerivedState) (p : ℕ) → Reached link_config honest memory words st → p < 2 → honest p ≡ true →
      Stored memory after p 0 → OnlyComes st next p (derived_state_after_reset (st p)) → Reached link_config honest after words next
  stores : (memory words now : ℕ → ℕ) (st next : ℕ → DerivedState) (p : ℕ) → Reached link_config honest memory words st → p < 2 → honest p ≡ true →
      (st p).place ≡ WritingState 2 → Stored words now p ((st p).numbers.log.opened + 1) → OnlyComes st next p (numbers_stored (st p)) →
      Reached link_config honest memory now next
  loads : (memory words : ℕ → ℕ) (st next : ℕ → DerivedState) (p : ℕ) → Reached link_config honest memory words st → p < 2 → honest p ≡ true →
      (st p).place ≡ WritingState 3 → OnlyComes st next p (numbers_loaded (st p) (words (1 - p))) → Reached link_config honest memory words next
  others : (memory after words : ℕ → ℕ) (st : ℕ → DerivedState) → Reached link_config honest memory words st →
      ((q : ℕ) → q < 2 → honest q ≡ true → IsUntouched link_config memory after q) → Reached link_config honest after words st
