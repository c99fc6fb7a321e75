-- The laws of the phase table, for all values read.
use Rattle.std.specs.Prelude.{◌≡◌, ℕ, ◌+◌, ◌≤◌, ◌⊎◌}
use Rattle.link_handshake.specs.PhaseTable.{phase_move, state_of}
use Rattle.link_handshake.specs.declared.Phase.{Phase}
use Rattle.link_handshake.specs.declared.Move.{Move}
use Rattle.link_handshake.specs.declared.Move.TheVariants.{Stay, Set, ClearThenSet}

-- The move sets this State.
abbrev pub Sets : Move → ℕ → Type 0
Sets Stay state = ⊥
Sets (Set next) state = state ≡ next
Sets (ClearThenSet next) state = state ≡ next

-- No phase is skipped: a move sets the next State, or RESET.
abbrev pub SkipsNone : Type 0
SkipsNone = (phase : Phase) (seen state : ℕ) → Sets (phase_move phase seen) state → (state ≡ state_of phase + 1) ⊎ (state ≡ 0)

-- READY is set only if the other end has left RESET.
abbrev pub WaitsForInit : Type 0
WaitsForInit = (phase : Phase) (seen : ℕ) → Sets (phase_move phase seen) 2 → 1 ≤ seen

-- RUN is set only if the other end is at least READY.
abbrev pub WaitsForReady : Type 0
WaitsForReady = (phase : Phase) (seen : ℕ) → Sets (phase_move phase seen) 3 → 2 ≤ seen

-- RESET is set only by an end in READY or RUN that reads RESET.
abbrev pub FollowsReset : Type 0
FollowsReset = (phase : Phase) (seen : ℕ) → Sets (phase_move phase seen) 0 → (2 ≤ state_of phase) × (seen ≡ 0)

-- INIT is set only if the other end is in RESET or INIT.
abbrev pub StartsAfresh : Type 0
StartsAfresh = (phase : Phase) (seen : ℕ) → Sets (phase_move phase seen) 1 → seen ≤ 1
