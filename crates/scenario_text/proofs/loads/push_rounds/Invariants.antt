use Rattle.std.proofs.Common.{◌≡◌, ◌++◌}
use Rattle.scenario_text.specs.Loads.{rounds}
use Rattle.scenario_text.proofs.loads.push_rounds.Given as goal

abbrev pub invariant-loop : goal.invariant-loop
invariant-loop l = l.acts ≡ l.fn.acts ++ rounds l.fn.steps l.counter
