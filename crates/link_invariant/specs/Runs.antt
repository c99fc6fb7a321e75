-- The states that two ends can reach over the region's words.
use Rattle.std.specs.Prelude.{ℕ, ◌≡◌, ◌-◌, ◌<◌, Bool, true}
use Rattle.call_grammar.specs.Ends.{End, fresh}
use Rattle.call_grammar.specs.Calls.{Call}
use Rattle.call_grammar.specs.Places.{Place, Closed}
use Rattle.link_machine.specs.LinkMachine.{Side, Log, MachineRuns, DeliversInOrder}
use Rattle.link_invariant.specs.LinkConfig.{LinkConfig, IsLinkConfig}
use Rattle.link_invariant.specs.Steps.{IsUntouched, BeginsCall, TakesStep, IsReset}
use Rattle.link_invariant.specs.LinkInvariant.{LinkInvariant}
use Rattle.link_invariant.specs.Sides.{SideIs}

-- From the start on, an honest end without an open call begins one, an honest end makes the step at
-- its place, or is reset. Words may change that are no honest end's.
pub data Runs (link_config : LinkConfig) (honest : ℕ → Bool) : (ℕ → ℕ) → (ℕ → End) → (ℕ → Place) → Type 0 where
  starts : (memory : ℕ → ℕ) (ends : ℕ → End) (places : ℕ → Place) →
      ((w : ℕ) → memory w ≡ 0) → ((p : ℕ) → ends p ≡ fresh) → ((p : ℕ) → places p ≡ Closed) → Runs link_config honest memory ends places
  begins : (memory : ℕ → ℕ) (ends after_ends : ℕ → End) (places after_places : ℕ → Place) (p : ℕ) (call : Call) → Runs link_config honest memory ends places →
      p < 2 → honest p ≡ true → BeginsCall link_config ends after_ends places after_places p call → Runs link_config honest memory after_ends after_places
  steps : (memory after : ℕ → ℕ) (ends after_ends : ℕ → End) (places after_places : ℕ → Place) (p value : ℕ) → Runs link_config honest memory ends places →
      p < 2 → honest p ≡ true → TakesStep link_config memory after ends after_ends places after_places p value → Runs link_config honest after after_ends after_places
  resets : (memory after : ℕ → ℕ) (ends after_ends : ℕ → End) (places after_places : ℕ → Place) (p : ℕ) → Runs link_config honest memory ends places →
      p < 2 → honest p ≡ true → IsReset memory after ends after_ends places after_places p → Runs link_config honest after after_ends after_places
  others : (memory after : ℕ → ℕ) (ends : ℕ → End) (places : ℕ → Place) → Runs link_config honest memory ends places →
      ((q : ℕ) → q < 2 → honest q ≡ true → IsUntouched link_config memory after q) → Runs link_config honest after ends places

-- All runs satisfy the invariant.
abbrev pub RunsKeepInvariant : Type 0
RunsKeepInvariant = (link_config : LinkConfig) (honest : ℕ → Bool) (memory : ℕ → ℕ) (ends : ℕ → End) (places : ℕ → Place) → IsLinkConfig link_config →
    Runs link_config honest memory ends places → LinkInvariant link_config honest memory ends places

-- Runs of two honest ends.
abbrev pub HonestRuns : LinkConfig → (ℕ → ℕ) → (ℕ → End) → (ℕ → Place) → Type 0
HonestRuns link_config memory ends places = Runs link_config (λ p. true) memory ends places

-- In all runs of two honest ends they are two sides of a run of the link machine. So each delivers
-- in order, through all its sessions.
abbrev pub HonestRunsDeliver : Type 0
HonestRunsDeliver = (link_config : LinkConfig) (memory : ℕ → ℕ) (ends : ℕ → End) (places : ℕ → Place) → IsLinkConfig link_config → HonestRuns link_config memory ends places →
    (sides : ℕ → Side) × (logs : ℕ → Log) × MachineRuns link_config.sizes (λ p. true) sides logs ×
    ((p : ℕ) → p < 2 → SideIs (ends p) (places p) (sides p) × DeliversInOrder (sides p) (sides (1 - p)) (logs p) (logs (1 - p)))
