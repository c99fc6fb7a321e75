-- A simulator whose lines a listener receives part by part, and which keeps none of them.
use Rattle.std.specs.Prelude.{◌≡◌, ℕ, List, ◌++◌, reverse}
use Rattle.scenario_text.specs.Scenario.{World}
use Rattle.lawful_history.specs.declared.line.Line.{Line}
use Rattle.lawful_history.specs.Schedule.{Event, schedule}
use Rattle.lawful_history.specs.Sessions.{recorded_in}
use Rattle.simulator.specs.Log.{Output}
use Rattle.simulator.specs.Simulator.{RunsTo, history_state_after, kept_lines}
use Rattle.simulator.specs.declared.simulator.Simulator.{Simulator}

-- A record of this version that was given these lines.
abbrev pub output_of : (version : ℕ) → List Line → Output
output_of version gone = record { version = version; drained = gone }

-- The simulator refines the state after these events, and the listener received the lines drained
-- from it.
pub record HasReceived (world : World) (version : ℕ) (received : List Line → Type 0) (events : List Event) (simulator : Simulator) : Type 0 where
  pub gone : List Line
  pub runs : RunsTo world (output_of version gone) events simulator
  pub lines : received gone

-- The listener stopped the play after the first of these events. It received the lines that were
-- drained from a simulator at that moment, and then those that the simulator kept.
pub record HasStopped (world : World) (version : ℕ) (stopped_after : List Line → Type 0) (events : List Event) : Type 0 where
  pub before : List Event
  pub rest : List Event
  pub events_are : events ≡ before ++ rest
  pub simulator : Simulator
  pub gone : List Line
  pub runs : RunsTo world (output_of version gone) before simulator
  pub lines : stopped_after (gone ++ kept_lines simulator)

-- The listener stopped the play after what a record of this version has of the first events of the
-- schedule.
pub record StopsWithin (world : World) (version : ℕ) (stopped_after : List Line → Type 0) : Type 0 where
  pub before : List Event
  pub rest : List Event
  pub scheduled : schedule world.acts ≡ before ++ rest
  pub lines : stopped_after (recorded_in world version (reverse (history_state_after world before).past))
