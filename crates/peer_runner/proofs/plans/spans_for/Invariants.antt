use Rattle.std.proofs.Common.{◌≡◌, take}
use Rattle.peer_runner.specs.OwnRecord.{spans_of}
use Rattle.peer_runner.proofs.plans.spans_for.Given as goal

-- The spans of the acts so far.
abbrev pub invariant-loop-act : goal.invariant-loop-act
invariant-loop-act l = l.spans ≡ spans_of (take l.act-index l.scenario.acts) l.me
