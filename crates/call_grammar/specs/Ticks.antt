-- A Tick and a Stop (profile: the phase table and the order of accesses), as a tree and as a table
-- of lists. A part of a tree has its continuation as its last argument.
use Rattle.std.specs.Prelude.{ℕ, zero, suc, ◌+◌, List, [], ◌∷◌, ◌++◌}
use Rattle.link_handshake.specs.declared.Move.{Move}
use Rattle.link_handshake.specs.declared.Move.TheVariants.{Stay, Set, ClearThenSet}
use Rattle.link_handshake.specs.HandshakeState.{move_of}
use Rattle.split_ring.specs.declared.steps.Access.TheVariants.{Read, Write, State}
use Rattle.split_ring.specs.Layout.{Sizes}
use Rattle.call_grammar.specs.Steps.{Mark, Saw, Over, Step, step_of}
use Rattle.call_grammar.specs.Trees.{CallTree, Ended, Does, Reads}
use Rattle.call_grammar.specs.Ends.{End}

-- The configuration of an end: the peer and the other peer, the first words of their sections, and
-- the number of words of each. The last fields are the sizes of the queue in the sections, and the
-- vector of the end's doorbells.
pub record EndConfig : Type 0 where
  pub me : ℕ
  pub other : ℕ
  pub own : ℕ
  pub other_start : ℕ
  pub words : ℕ
  pub sizes : Sizes
  pub vector : ℕ

-- The tree

-- Writes of 0 to consecutive words from `at` on, and then `after`.
abbrev pub clear : ℕ → ℕ → CallTree → CallTree
clear at zero after = after
clear at (suc more) after = Does (Write at 0) [] (clear (at + 1) more after)

-- A write of State, which ends the call.
abbrev pub set_state : ℕ → CallTree
set_state state = Does (State state) (Over ∷ []) Ended

abbrev pub tick_marks : ℕ → Move → List Mark
tick_marks value Stay = Saw value ∷ Over ∷ []
tick_marks value (Set state) = Saw value ∷ []
tick_marks value (ClearThenSet state) = Saw value ∷ []

abbrev pub after_tick : EndConfig → Move → CallTree
after_tick config Stay = Ended
after_tick config (Set state) = set_state state
after_tick config (ClearThenSet state) = clear config.own config.words (set_state state)

-- The word with the other's State: the State Table begins at word 0, and has a word for each peer
-- (profile).
abbrev pub other_state : EndConfig → ℕ
other_state config = config.other

-- A Tick that this end begins.
abbrev pub tick : EndConfig → End → CallTree
tick config end =
    Reads (other_state config) (λ value. tick_marks value (move_of end.handshake value)) (λ value. after_tick config (move_of end.handshake value))

-- The table

abbrev pub clear_steps : ℕ → ℕ → List Step
clear_steps at zero = []
clear_steps at (suc more) = step_of (Write at 0) 0 [] ∷ clear_steps (at + 1) more

abbrev pub state_step : ℕ → Step
state_step state = step_of (State state) 0 (Over ∷ [])

-- The read of the other's State.
abbrev pub saw_step : EndConfig → ℕ → List Mark → Step
saw_step config value marks = step_of (Read (other_state config)) value marks

-- A Tick that read `value`, by its move. It has no further step, or the State step, or writes of 0
-- to all own words in order and then the State step.
abbrev pub tick_steps : EndConfig → ℕ → Move → List Step
tick_steps config value Stay = saw_step config value (Saw value ∷ Over ∷ []) ∷ []
tick_steps config value (Set state) = saw_step config value (Saw value ∷ []) ∷ state_step state ∷ []
tick_steps config value (ClearThenSet state) = saw_step config value (Saw value ∷ []) ∷ (clear_steps config.own config.words ++ state_step state ∷ [])
