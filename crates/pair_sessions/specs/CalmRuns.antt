-- Runs in which neither honest end is stopped or reset. Each end opens at most one session.
use Rattle.std.specs.Prelude.{ℕ, ◌≡◌, ◌≢◌, ◌-◌, ◌<◌, ◌≤◌, ◌⊎◌, true, List, [], ◌++◌}
use Rattle.link_handshake.specs.declared.Phase.TheVariants.{Reset, Init}
use Rattle.link_handshake.specs.PhaseTable.{state_of}
use Rattle.call_grammar.specs.Ends.{End, fresh}
use Rattle.call_grammar.specs.Calls.{Call, Stop}
use Rattle.call_grammar.specs.Places.{Place, Closed, Clearing, WritingState}
use Rattle.link_machine.specs.LinkMachine.{Side, Log, MachineRuns}
use Rattle.link_invariant.specs.LinkConfig.{LinkConfig, IsLinkConfig}
use Rattle.link_invariant.specs.Steps.{IsUntouched, BeginsCall, TakesStep}
use Rattle.link_invariant.specs.Sides.{SideIs}

-- The states that two honest ends can reach without Stop and without a reset.
pub data CalmRuns (link_config : LinkConfig) : (ℕ → ℕ) → (ℕ → End) → (ℕ → Place) → Type 0 where
  starts : (memory : ℕ → ℕ) (ends : ℕ → End) (places : ℕ → Place) →
      ((w : ℕ) → memory w ≡ 0) → ((p : ℕ) → ends p ≡ fresh) → ((p : ℕ) → places p ≡ Closed) → CalmRuns link_config memory ends places
  begins : (memory : ℕ → ℕ) (ends after_ends : ℕ → End) (places after_places : ℕ → Place) (p : ℕ) (call : Call) → CalmRuns link_config memory ends places →
      p < 2 → call ≢ Stop → BeginsCall link_config ends after_ends places after_places p call → CalmRuns link_config memory after_ends after_places
  steps : (memory after : ℕ → ℕ) (ends after_ends : ℕ → End) (places after_places : ℕ → Place) (p value : ℕ) → CalmRuns link_config memory ends places →
      p < 2 → TakesStep link_config memory after ends after_ends places after_places p value → CalmRuns link_config after after_ends after_places
  others : (memory after : ℕ → ℕ) (ends : ℕ → End) (places : ℕ → Place) → CalmRuns link_config memory ends places →
      ((q : ℕ) → q < 2 → IsUntouched link_config memory after q) → CalmRuns link_config after ends places

-- The end isn't about to leave INIT for READY.
pub record IsStill (place : Place) : Type 0 where
  pub clears : (at more state : ℕ) → place ≢ Clearing at more state
  pub sets : place ≢ WritingState 2

-- An end that has opened at most one session:
-- - after it, the end stays in READY or RUN;
-- - before it, its lists are empty;
-- - no open tick takes it back;
-- - while it is in RESET, the other is in RESET too, or in INIT and not about to leave it.
pub record OpensOnce (end other : End) (place others_place : Place) (log : Log) : Type 0 where
  pub most : log.opened ≤ 1
  pub stays : 1 ≤ log.opened → 2 ≤ state_of end.handshake.phase
  pub counted : 2 ≤ state_of end.handshake.phase → 1 ≤ log.opened
  pub none : log.opened ≡ 0 → (end.accepted ≡ []) × (end.delivered ≡ [])
  pub up : place ≢ WritingState 0
  pub low : end.handshake.phase ≡ Reset → (other.handshake.phase ≡ Reset) ⊎ ((other.handshake.phase ≡ Init) × IsStill others_place)

-- The ends are the sides of a run of the machine. By its logs each opens at most one session, and
-- all frames that one delivered are a beginning of the frames that the other accepted.
abbrev pub CalmRunsDeliver : Type 0
CalmRunsDeliver = (link_config : LinkConfig) (memory : ℕ → ℕ) (ends : ℕ → End) (places : ℕ → Place) → IsLinkConfig link_config → CalmRuns link_config memory ends places →
    (sides : ℕ → Side) × (logs : ℕ → Log) × MachineRuns link_config.sizes (λ p. true) sides logs ×
    ((p : ℕ) → p < 2 → SideIs (ends p) (places p) (sides p) × OpensOnce (ends p) (ends (1 - p)) (places p) (places (1 - p)) (logs p) ×
    ((rest : List (List ℕ)) × ((ends p).accepted ≡ (ends (1 - p)).delivered ++ rest)))
