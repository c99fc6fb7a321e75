-- The phase table of a link's end (profile, in the manner of the ivshmem-net driver). States are
-- RESET 0, INIT 1, READY 2 and RUN 3. A State is read as a whole word, so 7 counts as READY or
-- more.
use Rattle.std.specs.Prelude.{ℕ, zero, suc}
use Rattle.link_handshake.specs.declared.Phase.{Phase}
use Rattle.link_handshake.specs.declared.Phase.TheVariants.{Reset, Init, Ready, Run}
use Rattle.link_handshake.specs.declared.Move.{Move}
use Rattle.link_handshake.specs.declared.Move.TheVariants.{Stay, Set, ClearThenSet}

-- The move of an end in phase `phase` that reads the other's State.
abbrev pub phase_move : Phase → ℕ → Move
phase_move Reset zero = Set 1
phase_move Reset (suc zero) = Set 1
phase_move Reset (suc (suc more)) = Stay
phase_move Init zero = Stay
phase_move Init (suc more) = ClearThenSet 2
phase_move Ready zero = Set 0
phase_move Ready (suc zero) = Stay
phase_move Ready (suc (suc more)) = Set 3
phase_move Run zero = Set 0
phase_move Run (suc more) = Stay

-- The phase of a State value, 3 and above as RUN.
abbrev pub phase_of_state : ℕ → Phase
phase_of_state zero = Reset
phase_of_state (suc zero) = Init
phase_of_state (suc (suc zero)) = Ready
phase_of_state (suc (suc (suc more))) = Run

-- The State value of a phase.
abbrev pub state_of : Phase → ℕ
state_of Reset = 0
state_of Init = 1
state_of Ready = 2
state_of Run = 3
