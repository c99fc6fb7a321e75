-- A Tick and a Stop as trees and as lists.
use Rattle.std.proofs.Common.{◌≡◌, ℕ, zero, suc, ◌+◌, List, [], ◌∷◌, ◌++◌, refl}
use Rattle.link_handshake.specs.HandshakeState.{move_of}
use Rattle.link_handshake.specs.declared.Move.{Move}
use Rattle.link_handshake.specs.declared.Move.TheVariants.{Stay, Set, ClearThenSet}
use Rattle.split_ring.specs.declared.steps.Access.TheVariants.{Read}
use Rattle.call_grammar.specs.Steps.{Step, step_of}
use Rattle.call_grammar.specs.Trees.{Makes}
use Rattle.call_grammar.specs.Ends.{End}
use Rattle.call_grammar.specs.Ticks.{EndConfig, clear, set_state, tick_marks, after_tick, clear_steps, state_step, tick_steps}
use Rattle.call_grammar.specs.Calls.{Tick, tree_of}

pub set_listed : (state : ℕ) (steps : List Step) → Makes (set_state state) steps → steps ≡ state_step state ∷ []
set_listed state [] makes = absurd makes
set_listed state (step ∷ steps) makes = let first = makes.0 in let none = makes.1 in cc

pub clear_listed : (at more state : ℕ) (steps : List Step) → Makes (clear at more (set_state state)) steps → steps ≡ clear_steps at more ++ state_step state ∷ []
clear_listed at zero state steps makes = set_listed state steps makes
clear_listed at (suc more) state [] makes = absurd makes
clear_listed at (suc more) state (step ∷ steps) makes = let first = makes.0 in let others = clear_listed (at + 1) more state steps makes.1 in cc

clear_made : (at more state : ℕ) → Makes (clear at more (set_state state)) (clear_steps at more ++ state_step state ∷ [])
clear_made at zero state = (refl, refl)
clear_made at (suc more) state = (refl, clear_made (at + 1) more state)

pub tick_listed : (config : EndConfig) (value : ℕ) (move : Move) (step : Step) (steps : List Step) → step ≡ step_of (Read config.other) value (tick_marks value move) → Makes (after_tick config move) steps →
    step ∷ steps ≡ tick_steps config value move
tick_listed config value Stay step steps is makes = let none = makes in cc
tick_listed config value (Set state) step steps is makes = let last = set_listed state steps makes in cc
tick_listed config value (ClearThenSet state) step steps is makes = let others = clear_listed config.own config.words state steps makes in cc

-- These steps are a Tick that read `value` and makes this move.
abbrev pub TicksBy : EndConfig → ℕ → Move → List Step → Type 0
TicksBy config value move [] = ⊥
TicksBy config value move (step ∷ steps) = (step ≡ step_of (Read config.other) value (tick_marks value move)) × Makes (after_tick config move) steps

pub ticks_by : (config : EndConfig) (value : ℕ) (move : Move) → TicksBy config value move (tick_steps config value move)
ticks_by config value Stay = (refl, refl)
ticks_by config value (Set state) = (refl, (refl, refl))
ticks_by config value (ClearThenSet state) = (refl, clear_made config.own config.words state)

pub tick_made : (config : EndConfig) (end : End) (value : ℕ) (steps : List Step) → TicksBy config value (move_of end.handshake value) steps → Makes (tree_of config end Tick) steps
tick_made config end value [] ticks = absurd ticks
tick_made config end value (step ∷ steps) ticks = (value, ticks.0, ticks.1)
