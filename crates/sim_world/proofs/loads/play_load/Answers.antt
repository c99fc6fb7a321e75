use Rattle.std.proofs.Common.{ℕ, ap, subst, sym, ◌∙◌, ◌≤◌, ◌<◌, List, [], ◌++◌, ◌+◌, length, take, drop, arith}
use Rattle.scenario_text.specs.declared.acts.Act.TheVariants.{Auto}
use Rattle.std.proofs.lemmas.List.{append-nil}
use Rattle.scenario_text.specs.Scenario.{World}
use Rattle.scenario_text.specs.Loads.{load_acts, load_world}
use Rattle.lawful_history.specs.declared.line.Line.{Line}
use Rattle.lawful_history.specs.Frames.{HaveFrames}
use Rattle.lawful_history.specs.Sides.{world_of}
use Rattle.lawful_history.specs.Schedule.{schedule}
use Rattle.simulator.specs.Log.{no_output}
use Rattle.simulator.specs.Simulator.{RunsTo}
use Rattle.simulator.proofs.OneMoreEvent.{one_act, losses_few}
use Rattle.sim_world.specs.declared.loads.TheConstants.{PERIOD}
use Rattle.sim_world.specs.Playing.{output_of}
use Rattle.sim_world.proofs.LoadActs.{acts_length, acts_of, is_act, starts_alike, load_received, load_stops}
use Rattle.sim_world.proofs.StoppedPlays.{passed_on, acts_left, none_left}
use Rattle.sim_world.proofs.loads.play_load.Goals as goal

pub loop-at-init : goal.loop-at-init
loop-at-init g c =
    let simulator = c.in_ok-simulator.simulator in (
      record {
        gone = [];
        runs = starts_alike PERIOD c.args.count 2 simulator c.requires.few (subst (λ (w : World). RunsTo w (no_output 2) [] simulator) c.in_ok-sample.ensures c.in_ok-simulator.ensures);
        lines = c.requires.silent;
      },
      ap (λ (n : ℕ). Auto 1 n) c.from.ensures,
    )

pub act_of-act-requires-clause-sample : goal.act_of-act-requires-clause-sample
act_of-act-requires-clause-sample g c = c.items.ensures ∙ acts_of (world_of c.in_ok-sample.sample) PERIOD c.in_ok-sample.ensures

pub act_of-act-requires-clause-expecting : goal.act_of-act-requires-clause-expecting
act_of-act-requires-clause-expecting g c = c.loop-at.invariant.1

pub play_act-requires : goal.play_act-requires
play_act-requires g c =
    let count = c.args.count in
    let at = c.loop-at.at in
    let below = c.loop-at-test.true in
    let inside : at < length (load_acts count) = omega (arith, c.act_count-at-end.ensures) in (
      c.args.listener.now,
      load_world count,
      2,
      schedule (take at (load_acts count)),
      c.loop-at.invariant.0,
      is_act count at c.act_of-act.result.now c.requires.few inside c.act_of-act.ensures,
      λ p. let few = losses_few (load_world count) (load_acts count) at p in let size = acts_length count in let most = c.requires.few in omega (arith, inside),
    )

pub loop-at-preserved : goal.loop-at-preserved
loop-at-preserved g c =
    let count = c.args.count in
    let world = load_world count in
    let at = c.loop-at.at in
    let below = c.loop-at-test.true in
    let inside : at < length (load_acts count) = omega (arith, c.act_count-at-end.ensures) in
    let act = c.act_of-act.result.now in
    let next = c.in_ok-play_act.ensures.received c.args.listener.now world 2 (schedule (take at (load_acts count))) (is_act count at act c.requires.few inside c.act_of-act.ensures) c.loop-at.invariant.0 in (
      record { gone = next.gone; runs = one_act world (output_of 2 next.gone) (load_acts count) at act c.play_act.new.simulator inside c.act_of-act.ensures next.runs; lines = next.lines },
      c.loop-at.invariant.1,
    )

pub returns-clause-received : goal.returns-clause-received
returns-clause-received g c =
    let received = c.loop-at.invariant.0 in
    let beyond = c.loop-at-test.false in
    let end : length (load_acts c.args.count) ≤ c.loop-at.at = omega (arith, c.act_count-at-end.ensures) in
    let same = load_received c.args.count received.gone c.loop-at.at c.loop-at.simulator end received.runs in
    subst (λ (lines : List Line). g.L.Listener.received c.args.listener.now c.take_lines.new.self lines) (ap (λ (lines : List Line). received.gone ++ lines) c.lines-last.ensures ∙ same)
    (c.in_ok-take_lines.ensures.received c.args.listener.now received.gone received.lines (subst (λ (lines : List Line). HaveFrames lines) (sym c.lines-last.ensures) received.runs.after.log.frames))

pub returns-in_err-play_act-clause-stopped : goal.returns-in_err-play_act-clause-stopped
returns-in_err-play_act-clause-stopped g c =
    let count = c.args.count in
    let acts = load_acts count in
    let at = c.loop-at.at in
    let below = c.loop-at-test.true in
    let inside : at < length (load_acts count) = omega (arith, c.act_count-at-end.ensures) in
    let act = c.act_of-act.result.now in
    passed_on c.in_err-play_act.field-0.0 c.from_residual-in_err-play_act.result _ c.from_residual-in_err-play_act.ensures.1
    (λ is. load_stops count (g.L.Listener.stopped_after c.args.listener.now c.play_act.new.listener) _ (schedule (drop (at + 1) acts)) (acts_left acts at act inside c.act_of-act.ensures)
    (c.in_err-play_act.ensures.stopped c.args.listener.now (load_world count) 2 (schedule (take at acts)) (is_act count at act c.requires.few inside c.act_of-act.ensures) c.loop-at.invariant.0 is))

pub returns-in_err-take_lines-clause-stopped : goal.returns-in_err-take_lines-clause-stopped
returns-in_err-take_lines-clause-stopped g c =
    let received = c.loop-at.invariant.0 in
    let acts = load_acts c.args.count in
    let at = c.loop-at.at in
    let beyond = c.loop-at-test.false in
    let end : length (load_acts c.args.count) ≤ at = omega (arith, c.act_count-at-end.ensures) in
    let frames = subst (λ (lines : List Line). HaveFrames lines) (sym c.lines-last.ensures) received.runs.after.log.frames in
    passed_on c.in_err-take_lines.field-0.0 c.from_residual-in_err-take_lines.result _ c.from_residual-in_err-take_lines.ensures.1
    (λ is. load_stops c.args.count (g.L.Listener.stopped_after c.args.listener.now c.take_lines.new.self) (schedule (take at acts)) [] (none_left acts at end)
    (record {
      before = schedule (take at acts);
      rest = [];
      events_are = sym (append-nil (schedule (take at acts)));
      simulator = c.loop-at.simulator;
      gone = received.gone;
      runs = received.runs;
      lines = subst (λ (ls : List Line). g.L.Listener.stopped_after c.args.listener.now c.take_lines.new.self (received.gone ++ ls)) c.lines-last.ensures (c.in_err-take_lines.ensures.stopped c.args.listener.now received.gone received.lines frames is);
    }))
