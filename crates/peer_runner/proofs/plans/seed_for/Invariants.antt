use Rattle.std.proofs.Common.{take}
use Rattle.peer_runner.specs.Drives.{Seeds}
use Rattle.peer_runner.proofs.plans.seed_for.Given as goal

-- The seed of the acts so far.
abbrev pub invariant-loop-act : goal.invariant-loop-act
invariant-loop-act l = Seeds l.me (take l.act-index l.scenario.acts) l.seed
