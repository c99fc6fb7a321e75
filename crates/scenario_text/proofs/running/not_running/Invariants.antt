use Rattle.std.proofs.Common.{◌≡◌, ◌+◌, drop, take}
use Rattle.scenario_text.specs.Running.{FlagsAre, first_break, not_running}
use Rattle.scenario_text.specs.Spelling.{world_of}
use Rattle.scenario_text.proofs.running.not_running.Given as goal

-- No act so far breaks the form.
abbrev pub invariant-loop-k : goal.invariant-loop-k
invariant-loop-k l = FlagsAre l.before (take l.k l.acts) × (not_running (world_of l.scenario) ≡ first_break (take l.k l.acts) (drop l.k l.acts) (l.scenario.geometry.peers + 9 + l.k))
