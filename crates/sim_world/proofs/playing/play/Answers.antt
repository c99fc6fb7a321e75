use Rattle.std.proofs.lemmas.List.{append-nil}
use Rattle.std.proofs.Common.{ap, subst, sym, ◌∙◌, List, [], ◌++◌, ◌+◌, take, drop, arith}
use Rattle.lawful_history.specs.declared.line.Line.{Line}
use Rattle.lawful_history.specs.Frames.{HaveFrames}
use Rattle.lawful_history.specs.Sides.{world_of}
use Rattle.lawful_history.specs.Schedule.{schedule}
use Rattle.simulator.proofs.OneMoreEvent.{one_act, act_at, losses_few}
use Rattle.sim_world.specs.Playing.{output_of}
use Rattle.sim_world.proofs.DrainedHistories.{received_whole}
use Rattle.sim_world.proofs.StoppedPlays.{passed_on, by_memory, stops_within, acts_left, none_left}
use Rattle.sim_world.proofs.playing.play.Goals as goal

pub play_act-requires : goal.play_act-requires
play_act-requires g c =
    let world = world_of c.args.scenario.now in
    let i = c.loop-act.act-index in
    let inside = rw c.items-act-items.ensures at c.loop-act-test.true in (
      c.args.listener.now,
      world,
      c.args.version,
      schedule (take i world.acts),
      c.loop-act.invariant,
      act_at world i c.act-item.result c.args.scenario.now.world inside (rw c.items-act-items.ensures at c.act-item.is),
      λ p. let few = losses_few world world.acts i p in let below = c.loop-act-test.true in omega arith,
    )

pub loop-act-preserved : goal.loop-act-preserved
loop-act-preserved g c =
    let world = world_of c.args.scenario.now in
    let i = c.loop-act.act-index in
    let inside = rw c.items-act-items.ensures at c.loop-act-test.true in
    let at = rw c.items-act-items.ensures at c.act-item.is in
    let next = c.in_ok-play_act.ensures.received c.args.listener.now world c.args.version (schedule (take i world.acts)) (act_at world i c.act-item.result c.args.scenario.now.world inside at) c.loop-act.invariant in
    record { gone = next.gone; runs = one_act world (output_of c.args.version next.gone) world.acts i c.act-item.result c.play_act.new.simulator inside at next.runs; lines = next.lines }

pub returns-clause-received : goal.returns-clause-received
returns-clause-received g c =
    let world = world_of c.args.scenario.now in
    let received = c.loop-act.invariant in
    let end = rw c.items-act-items.ensures at c.loop-act-test.false in
    let same = received_whole world c.args.version received.gone c.loop-act.act-index c.loop-act.simulator end received.runs in
    subst (λ (lines : List Line). g.L.Listener.received c.args.listener.now c.take_lines.new.self lines) (ap (λ (lines : List Line). received.gone ++ lines) c.lines-last.ensures ∙ same) (c.in_ok-take_lines.ensures.received c.args.listener.now received.gone received.lines (subst (λ (lines : List Line). HaveFrames lines) (sym c.lines-last.ensures) received.runs.after.log.frames))

pub returns-in_err-simulator-clause-stopped : goal.returns-in_err-simulator-clause-stopped
returns-in_err-simulator-clause-stopped g c = by_memory c.from_residual.result _ c.from_residual.ensures.1

pub returns-in_err-play_act-clause-stopped : goal.returns-in_err-play_act-clause-stopped
returns-in_err-play_act-clause-stopped g c =
    let world = world_of c.args.scenario.now in
    let i = c.loop-act.act-index in
    let inside = rw c.items-act-items.ensures at c.loop-act-test.true in
    let at = rw c.items-act-items.ensures at c.act-item.is in
    let allowed = act_at world i c.act-item.result c.args.scenario.now.world inside at in
    passed_on c.in_err-play_act.field-0.0 c.from_residual-in_err-play_act.result _ c.from_residual-in_err-play_act.ensures.1
    (λ is. stops_within world c.args.version (g.L.Listener.stopped_after c.args.listener.now c.play_act.new.listener) _ (schedule (drop (i + 1) world.acts)) (acts_left world.acts i c.act-item.result inside at)
    (c.in_err-play_act.ensures.stopped c.args.listener.now world c.args.version (schedule (take i world.acts)) allowed c.loop-act.invariant is))

pub returns-in_err-take_lines-clause-stopped : goal.returns-in_err-take_lines-clause-stopped
returns-in_err-take_lines-clause-stopped g c =
    let world = world_of c.args.scenario.now in
    let received = c.loop-act.invariant in
    let i = c.loop-act.act-index in
    let end = rw c.items-act-items.ensures at c.loop-act-test.false in
    let frames = subst (λ (lines : List Line). HaveFrames lines) (sym c.lines-last.ensures) received.runs.after.log.frames in
    passed_on c.in_err-take_lines.field-0.0 c.from_residual-in_err-take_lines.result _ c.from_residual-in_err-take_lines.ensures.1
    (λ is. stops_within world c.args.version (g.L.Listener.stopped_after c.args.listener.now c.take_lines.new.self) (schedule (take i world.acts)) [] (none_left world.acts i end)
    (record {
      before = schedule (take i world.acts);
      rest = [];
      events_are = sym (append-nil (schedule (take i world.acts)));
      simulator = c.loop-act.simulator;
      gone = received.gone;
      runs = received.runs;
      lines = subst (λ (ls : List Line). g.L.Listener.stopped_after c.args.listener.now c.take_lines.new.self (received.gone ++ ls)) c.lines-last.ensures (c.in_err-take_lines.ensures.stopped c.args.listener.now received.gone received.lines frames is);
    }))
