use Rattle.std.proofs.Common.{◌≡◌, ℕ, List, ◌++◌, sym, subst}
use Rattle.std.specs.Prelude.{IfOk, reverse}
use Rattle.split_ring.specs.declared.steps.Access.{Access}
use Rattle.split_ring.specs.declared.steps.Access.TheVariants as access
use Rattle.scenario_text.specs.Scenario.{World}
use Rattle.lawful_history.specs.declared.line.Line.{Line}
use Rattle.simulator.specs.Log.{Output}
use Rattle.simulator.specs.WorldState.{WorldStateAfter, GaveLast, accessed}
use Rattle.simulator.specs.declared.world_state.WorldState.{WorldState}
use Rattle.simulator.proofs.world_state.WorldState.perform.Goals as goal

-- The value that an access returned, and the state after it.
abbrev Left : World → Output → List Line → (ℕ → ℕ) → ℕ → WorldState → Access → ℕ → Type 0
Left world output past losses me world_state a value = GaveLast past a value × WorldStateAfter world output (reverse (accessed world past losses me a value) ++ past) losses world_state

to : (world : World) (output : Output) (past : List Line) (losses : ℕ → ℕ) (me : ℕ) (world_state : WorldState) (a b : Access) (value : ℕ) → a ≡ b → Left world output past losses me world_state b value → Left world output past losses me world_state a value
to world output past losses me world_state a b value is left = subst (λ (x : Access). Left world output past losses me world_state x value) (sym is) left

pub returns-in-Read-clause-after : goal.returns-in-Read-clause-after
returns-in-Read-clause-after c = λ world output past losses after.
    subst (λ (x : Access). IfOk c.read.result (Left world output past losses c.args.me c.read.new.self x)) (sym c.in-Read.is) (c.read.ensures.after world output past losses after)

pub returns-in_ok-write-in-Write-clause-after : goal.returns-in_ok-write-in-Write-clause-after
returns-in_ok-write-in-Write-clause-after c = λ world output past losses after.
    to world output past losses c.args.me c.write.new.self c.args.access (access.Write c.in-Write.word c.in-Write.value) 0 c.in-Write.is (tt, c.in_ok-write-in-Write.ensures.after world output past losses after)

pub returns-in_ok-set_state-in-State-clause-after : goal.returns-in_ok-set_state-in-State-clause-after
returns-in_ok-set_state-in-State-clause-after c = λ world output past losses after.
    to world output past losses c.args.me c.set_state.new.self c.args.access (access.State c.in-State.state) 0 c.in-State.is (tt, c.in_ok-set_state-in-State.ensures.after world output past losses after)

pub returns-in_ok-ring-in-Ring-clause-after : goal.returns-in_ok-ring-in-Ring-clause-after
returns-in_ok-ring-in-Ring-clause-after c = λ world output past losses after.
    to world output past losses c.args.me c.ring.new.self c.args.access (access.Ring c.in-Ring.target c.in-Ring.vector) 0 c.in-Ring.is (tt, c.in_ok-ring-in-Ring.ensures.after world output past losses after)
