use Rattle.std.proofs.Common.{ℕ, ◌+◌, ◌≤◌, List, ◌++◌, replicate, length}
use Rattle.port_text.specs.declared.limits.TheConstants.{MOST_TURNS}
use Rattle.port_text.specs.Scenario.{World}
use Rattle.sampling_port.specs.Schedule.{Event, TurnTaken}
use Rattle.sampling_port.specs.Simulator.{IsPermittedEvent, RunsTo}
use Rattle.sampling_port.proofs.simulator.Simulator.turns.Given as goal

abbrev pub invariant-loop-k : goal.invariant-loop-k
invariant-loop-k l = (world : World) (front : List ℕ) (events : List Event) → IsPermittedEvent world (TurnTaken l.peer) → length events + l.steps ≤ MOST_TURNS → RunsTo world front events l.initial.self →
    RunsTo world front (events ++ replicate l._k (TurnTaken l.peer)) l.self
