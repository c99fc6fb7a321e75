use Rattle.std.proofs.Common.{◌≡◌, ℕ, subst, arith}
use Rattle.frame_bridge.specs.Run.{World, schedule, ran}
use Rattle.frame_bridge.specs.Refinement.{IsThere}
use Rattle.frame_bridge.proofs.Schedules.{rounds_more}
use Rattle.frame_bridge.proofs.run.Run.rounds.Goals as goal

pub round-requires : goal.round-requires
round-requires c =
    let there = c.requires in
    (there.0, there.1, ran there.2 (schedule c.loop-round._round there.1), c.loop-round.invariant there.0 there.1 there.2 there.3)

pub loop-round-preserved : goal.loop-round-preserved
loop-round-preserved c = λ sent ports w there.
    subst (λ (x : World). IsThere sent ports x c.round.new.self) (rounds_more w c.loop-round._round ports)
    (c.in_ok-round.ensures sent ports (ran w (schedule c.loop-round._round ports)) (c.loop-round.invariant sent ports w there))

pub returns : goal.returns
returns c = λ sent ports w there.
    let all : c.loop-round._round ≡ c.args.rounds = omega (arith, c.loop-round-test.false, c.loop-round.auto) in
    subst (λ (n : ℕ). IsThere sent ports (ran w (schedule n ports)) c.loop-round.self) all (c.loop-round.invariant sent ports w there)
