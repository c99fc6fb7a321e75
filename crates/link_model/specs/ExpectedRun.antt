-- The lawful history of a scenario, played as far as the lines that were taken.
use Rattle.std.specs.Prelude.{ℕ, ◌≡◌, ◌+◌, ◌-◌, ◌<◌, ◌≤◌, ◌⊎◌, Option, Some, None, List, ◌++◌, length, take, drop, replicate}
use Rattle.scenario_text.specs.Scenario.{World}
use Rattle.lawful_history.specs.declared.line.Line.{Line}
use Rattle.lawful_history.specs.Schedule.{Event, TurnTaken, schedule}
use Rattle.lawful_history.specs.Sessions.{recorded_in}
use Rattle.lawful_history.specs.History.{history}
use Rattle.simulator.specs.Log.{Output}
use Rattle.simulator.specs.Simulator.{RunsTo, kept_lines}
use Rattle.link_model.specs.declared.expected_run.ExpectedRun.{ExpectedRun}
use Rattle.link_model.specs.declared.fault.StepFault.{StepFault}
use Rattle.link_model.specs.ScenarioParts.{world_of_parts}

-- The scenario's world.
abbrev pub world_in : ExpectedRun → World
world_in expected_run = world_of_parts expected_run.scenario

-- The lines that a record of the run's version has of the lawful history.
abbrev pub recorded_of : ExpectedRun → List Line
recorded_of expected_run = recorded_in (world_in expected_run) expected_run.version (history (world_in expected_run))

-- The events played, and the turns left after them, are those of the acts before the next one. The
-- lines drained from the simulator are in this output.
pub record IsPlayed (output : Output) (expected_run : ExpectedRun) : Type 0 where
  pub events : List Event
  pub version : output.version ≡ expected_run.version
  pub runs : RunsTo (world_in expected_run) output events expected_run.simulator
  pub at : expected_run.at ≤ length (world_in expected_run).acts
  pub scheduled : events ++ replicate expected_run.left (TurnTaken expected_run.peer) ≡ schedule (take expected_run.at (world_in expected_run).acts)
  pub peer : 0 < expected_run.left → expected_run.peer < (world_in expected_run).geometry.peers

-- These lines were taken: those that were drained, and the first `passed` of those that the
-- simulator keeps.
pub record IsAlong (lines : List Line) (expected_run : ExpectedRun) : Type 0 where
  pub output : Output
  pub played : IsPlayed output expected_run
  pub passed : expected_run.passed ≤ length (kept_lines expected_run.simulator)
  pub taken : output.drained ++ take expected_run.passed (kept_lines expected_run.simulator) ≡ lines

-- No turn and no act is left.
abbrev pub IsOver : ExpectedRun → Type 0
IsOver expected_run = (expected_run.left ≡ 0) × (length (world_in expected_run).acts ≤ expected_run.at)

-- These lines were taken, and the next one waits, or the schedule is over.
pub record GoesOn (lines : List Line) (expected_run : ExpectedRun) : Type 0 where
  pub along : IsAlong lines expected_run
  pub settled : (expected_run.passed < length (kept_lines expected_run.simulator)) ⊎ IsOver expected_run

-- The number of turns and acts that are left.
abbrev pub remains : ExpectedRun → ℕ
remains expected_run = expected_run.left + length (schedule (drop expected_run.at (world_in expected_run).acts)) + (length (world_in expected_run).acts - expected_run.at)

-- A run without a fault took lines and counted them: the next line has this number.
abbrev pub IsGoing : Option StepFault → ℕ → ExpectedRun → Type 0
IsGoing None next expected_run = (lines : List Line) × GoesOn lines expected_run × (next ≡ length lines + 1)
IsGoing (Some fault) next expected_run = Unit {0}
