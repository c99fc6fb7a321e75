use Rattle.std.proofs.Common.{arith, List, ap, length, take, subst, sym, ◌∙◌}
use Rattle.scenario_text.specs.Spelling.{world_of}
use Rattle.lawful_history.specs.declared.line.Line.{Line}
use Rattle.lawful_history.specs.Schedule.{schedule}
use Rattle.lawful_history.specs.Lawful.{IsLawfulIn}
use Rattle.simulator.specs.Log.{no_output}
use Rattle.simulator.proofs.OneMoreEvent.{one_act, act_at, losses_few, whole_history}
use Rattle.ivshm_explain.proofs.differences.lawful_lines.Goals as goal

pub act-requires : goal.act-requires
act-requires c =
    let world = world_of c.args.scenario.now in
    let i = c.loop-act.act-index in
    let inside = rw c.items-act-items.ensures at c.loop-act-test.true in
    let end = c.loop-act.auto.act-index-end in (
      world,
      no_output c.args.version,
      schedule (take i world.acts),
      c.loop-act.invariant,
      act_at world i c.act-item.result c.args.scenario.now.world inside (rw c.items-act-items.ensures at c.act-item.is),
      λ p. let few = losses_few world world.acts i p in let below = c.loop-act-test.true in omega arith,
    )

pub loop-act-preserved : goal.loop-act-preserved
loop-act-preserved c =
    let world = world_of c.args.scenario.now in
    let i = c.loop-act.act-index in
    let inside = rw c.items-act-items.ensures at c.loop-act-test.true in
    let at = rw c.items-act-items.ensures at c.act-item.is in
    one_act world (no_output c.args.version) world.acts i c.act-item.result c.act.new.self inside at
    (c.in_ok-act.ensures world (no_output c.args.version) (schedule (take i world.acts)) (act_at world i c.act-item.result c.args.scenario.now.world inside at) c.loop-act.invariant)

pub returns : goal.returns
returns c =
    let world = world_of c.args.scenario.now in
    let version = c.args.version in
    let lines = c.into_lines.ensures ∙ whole_history world version c.loop-act.act-index c.loop-act.simulator (omega (arith, ap length c.items-act-items.ensures)) c.loop-act.invariant in
    subst (λ (ls : List Line). IsLawfulIn world version ls) (sym lines) (c.records_hold_one_history.ensures.recorded world version c.args.scenario.now.world)
