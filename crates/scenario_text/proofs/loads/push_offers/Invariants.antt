use Rattle.std.proofs.Common.{◌≡◌, ◌++◌}
use Rattle.scenario_text.specs.Loads.{offers_of, load_frames}
use Rattle.scenario_text.proofs.loads.push_offers.Given as goal

abbrev pub invariant-loop-number : goal.invariant-loop-number
invariant-loop-number l = l.acts ≡ l.fn.acts ++ offers_of 0 (load_frames l.number)
