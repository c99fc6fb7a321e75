use Rattle.std.proofs.Common.{◌≡◌, ℕ, List, sym, subst, arith}
use Rattle.frame_bridge.specs.Run.{World, Turn, turn, times, ran}
use Rattle.frame_bridge.specs.Refinement.{IsThere}
use Rattle.frame_bridge.proofs.Schedules.{ran_append, times_none, times_more}
use Rattle.frame_bridge.proofs.run.Run.port_turns.Goals as goal

pub station_turn-requires : goal.station_turn-requires
station_turn-requires c =
    let there = c.requires in
    (there.0, there.1, ran there.2 (times c.loop-station._station (turn c.args.port 0)), c.loop-station.invariant there.0 there.1 there.2 there.3, there.4)

pub own_turn-requires : goal.own_turn-requires
own_turn-requires c =
    let there = c.requires in
    (there.0, there.1, ran (ran there.2 (times 64 (turn c.args.port 0))) (times c.loop-own._own (turn c.args.port 1)), c.loop-own.invariant there.0 there.1 there.2 there.3, there.4)

pub loop-station-init : goal.loop-station-init
loop-station-init c = λ sent ports w there. subst (λ (ts : List Turn). IsThere sent ports (ran w ts) c.args.self.now) (sym (times_none (turn c.args.port 0))) there

pub loop-station-preserved : goal.loop-station-preserved
loop-station-preserved c = λ sent ports w there.
    let t : Turn = turn c.args.port 0 in
    subst (λ (x : World). IsThere sent ports x c.station_turn.new.self) (times_more w c.loop-station._station t)
    (c.in_ok-station_turn.ensures sent ports (ran w (times c.loop-station._station t)) (c.loop-station.invariant sent ports w there))

pub loop-own-init : goal.loop-own-init
loop-own-init c = λ sent ports w there.
    let t : Turn = turn c.args.port 0 in
    let all : c.loop-station._station ≡ 64 = omega (arith, c.loop-station-test.false, c.loop-station.auto) in
    subst (λ (ts : List Turn). IsThere sent ports (ran (ran w (times 64 t)) ts) c.loop-station.self) (sym (times_none (turn c.args.port 1)))
    (subst (λ (n : ℕ). IsThere sent ports (ran w (times n t)) c.loop-station.self) all (c.loop-station.invariant sent ports w there))

pub loop-own-preserved : goal.loop-own-preserved
loop-own-preserved c = λ sent ports w there.
    let t : Turn = turn c.args.port 1 in
    let v : World = ran w (times 64 (turn c.args.port 0)) in
    subst (λ (x : World). IsThere sent ports x c.own_turn.new.self) (times_more v c.loop-own._own t)
    (c.in_ok-own_turn.ensures sent ports (ran v (times c.loop-own._own t)) (c.loop-own.invariant sent ports w there))

pub returns : goal.returns
returns c = λ sent ports w there.
    let first : List Turn = times 64 (turn c.args.port 0) in
    let second : List Turn = times 64 (turn c.args.port 1) in
    let all : c.loop-own._own ≡ 64 = omega (arith, c.loop-own-test.false, c.loop-own.auto) in
    subst (λ (x : World). IsThere sent ports x c.loop-own.self) (sym (ran_append w first second))
    (subst (λ (n : ℕ). IsThere sent ports (ran (ran w first) (times n (turn c.args.port 1))) c.loop-own.self) all (c.loop-own.invariant sent ports w there))
