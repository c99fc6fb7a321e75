-- The State rows of the link machine over a call. An end sets 0, or the State of the phase table's
-- move for the value that it read last. That value is the other's State.
use Rattle.std.specs.Prelude.{ℕ, ◌≡◌, ◌⊎◌, List, [], ◌∷◌}
use Rattle.link_handshake.specs.declared.Phase.{Phase}
use Rattle.link_handshake.specs.declared.Move.TheVariants.{Set, ClearThenSet}
use Rattle.link_handshake.specs.PhaseTable.{phase_move, phase_of_state}
use Rattle.split_ring.specs.declared.steps.Access.{Access}
use Rattle.split_ring.specs.declared.steps.Access.TheVariants as access
use Rattle.call_grammar.specs.Steps.{Mark, Saw, Step}
use Rattle.call_grammar.specs.Trees.{CallTree, Ended, Does, Reads, Goes}
use Rattle.call_grammar.specs.Ends.{End}
use Rattle.call_grammar.specs.Ticks.{other_state}
use Rattle.call_grammar.specs.Calls.{EndConfig, Call, tree_of}

-- An end in phase `phase` that read `seen` moves to this State.
abbrev pub MovesTo : Phase → ℕ → ℕ → Type 0
MovesTo phase seen state = (phase_move phase seen ≡ Set state) ⊎ (phase_move phase seen ≡ ClearThenSet state)

-- The phase after an access.
abbrev pub phase_with : Phase → Access → Phase
phase_with phase (access.State state) = phase_of_state state
phase_with phase _ = phase

-- The State value read last, after these marks.
abbrev pub seen_with : ℕ → List Mark → ℕ
seen_with seen [] = seen
seen_with seen (Saw value ∷ marks) = seen_with value marks
seen_with seen (_ ∷ marks) = seen_with seen marks

-- The read of the marks `Saw` is a read of the other's State word, and their value is the value
-- read.
abbrev pub SeesTheOther : EndConfig → ℕ → ℕ → List Mark → Type 0
SeesTheOther config word value [] = Unit {0}
SeesTheOther config word value (Saw seen ∷ marks) = (word ≡ other_state config) × (seen ≡ value) × SeesTheOther config word value marks
SeesTheOther config word value (_ ∷ marks) = SeesTheOther config word value marks

-- None of these marks is `Saw`.
abbrev pub SeesNothing : List Mark → Type 0
SeesNothing [] = Unit {0}
SeesNothing (Saw seen ∷ marks) = ⊥
SeesNothing (_ ∷ marks) = SeesNothing marks

-- The row of one step: by its access, the value read and its marks, for an end in phase `phase`
-- that read `seen` last.
abbrev pub RowHolds : EndConfig → Phase → ℕ → Access → ℕ → List Mark → Type 0
RowHolds config phase seen (access.Read word) value marks = SeesTheOther config word value marks
RowHolds config phase seen (access.State state) value marks = ((state ≡ 0) ⊎ MovesTo phase seen state) × SeesNothing marks
RowHolds config phase seen _ value marks = SeesNothing marks

-- Each step of the call has its row, for all values read.
abbrev pub KeepsRows : EndConfig → Phase → ℕ → CallTree → Type 0
KeepsRows config phase seen Ended = Unit {0}
KeepsRows config phase seen (Does access marks rest) =
    RowHolds config phase seen access 0 marks × KeepsRows config (phase_with phase access) (seen_with seen marks) rest
KeepsRows config phase seen (Reads word marks rest) = (value : ℕ) →
    RowHolds config phase seen (access.Read word) value (marks value) × KeepsRows config phase (seen_with seen (marks value)) (rest value)

-- Every call has its rows, and so has the rest of a call after a step. Its phase is the end's.
pub record CallsKeepRows : Type 0 where
  pub calls : (config : EndConfig) (end : End) (seen : ℕ) (call : Call) → KeepsRows config end.handshake.phase seen (tree_of config end call)
  pub step : (config : EndConfig) (phase : Phase) (seen : ℕ) (tree new : CallTree) (step : Step) → KeepsRows config phase seen tree → Goes tree step new →
      RowHolds config phase seen step.access step.value step.marks × KeepsRows config (phase_with phase step.access) (seen_with seen step.marks) new
