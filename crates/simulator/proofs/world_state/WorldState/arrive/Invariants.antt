use Rattle.std.proofs.Common.{ℕ, List, ◌++◌, take}
use Rattle.std.specs.Prelude.{reverse}
use Rattle.scenario_text.specs.Scenario.{World}
use Rattle.lawful_history.specs.declared.line.Line.{Line}
use Rattle.lawful_history.specs.Device.{delivery_lines}
use Rattle.simulator.specs.Log.{Output}
use Rattle.simulator.specs.WorldState.{WorldStateAfter, HasPeer}
use Rattle.simulator.proofs.world_state.WorldState.arrive.Given as goal

abbrev pub invariant-loop-delivery : goal.invariant-loop-delivery
invariant-loop-delivery l =
    ((world : World) (output : Output) (past : List Line) (losses : ℕ → ℕ) → WorldStateAfter world output past losses l.initial.self → WorldStateAfter world output (reverse (delivery_lines past losses (take l.delivery-index l.deliveries)) ++ past) losses l.self)
    × ((me : ℕ) → HasPeer l.initial.self me → HasPeer l.self me)
