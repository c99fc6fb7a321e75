use Rattle.std.proofs.Common.{ℕ, List, ◌++◌, replicate}
use Rattle.scenario_text.specs.Scenario.{World}
use Rattle.lawful_history.specs.Permitted.{IsPermittedEvent}
use Rattle.lawful_history.specs.Schedule.{Event, TurnTaken}
use Rattle.sim_world.specs.Playing.{HasReceived}
use Rattle.sim_world.proofs.playing.play_turns.Given as goal

-- The turns up to this one were played.
abbrev pub invariant-loop-k : goal.invariant-loop-k
invariant-loop-k g l = (began : g.row.L.Denot) (world : World) (version : ℕ) (events : List Event) → IsPermittedEvent world (TurnTaken l.peer) → HasReceived world version (g.L.Listener.received began l.initial.listener) events l.initial.simulator → HasReceived world version (g.L.Listener.received began l.listener) (events ++ replicate l._k (TurnTaken l.peer)) l.simulator
