use Rattle.std.proofs.Common.{take}
use Rattle.scenario_text.specs.Running.{AreEnds}
use Rattle.scenario_text.proofs.ends.Ends.of.Given as goal

-- The ends in the acts so far.
abbrev pub invariant-loop-k : goal.invariant-loop-k
invariant-loop-k l = AreEnds l.ends (take l.k l.acts)
