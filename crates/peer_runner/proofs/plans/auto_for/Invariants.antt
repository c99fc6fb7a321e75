use Rattle.std.proofs.Common.{take}
use Rattle.peer_runner.specs.Drives.{Gathers}
use Rattle.peer_runner.proofs.plans.auto_for.Given as goal

-- The plan of the acts so far.
abbrev pub invariant-loop-act : goal.invariant-loop-act
invariant-loop-act l = Gathers l.scenario.queue.mtu l.me (take l.act-index l.scenario.acts) l.auto'
