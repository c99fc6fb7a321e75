use Rattle.std.proofs.Common.{List, ◌++◌, replicate}
use Rattle.scenario_text.specs.Scenario.{World}
use Rattle.lawful_history.specs.Permitted.{IsPermittedEvent}
use Rattle.lawful_history.specs.Schedule.{Event, TurnTaken}
use Rattle.simulator.specs.Log.{Output}
use Rattle.simulator.specs.Simulator.{RunsTo}
use Rattle.simulator.proofs.simulator.Simulator.turns.Given as goal

abbrev pub invariant-loop-k : goal.invariant-loop-k
invariant-loop-k l = (world : World) (output : Output) (events : List Event) → IsPermittedEvent world (TurnTaken l.peer) → RunsTo world output events l.initial.self → RunsTo world output (events ++ replicate l._k (TurnTaken l.peer)) l.self
