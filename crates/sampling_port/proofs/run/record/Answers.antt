use Rattle.std.proofs.Common.{arith, take}
use Rattle.port_text.specs.Spelling.{world_of}
use Rattle.sampling_port.specs.Schedule.{schedule}
use Rattle.sampling_port.proofs.OneMoreEvent.{front_of, one_act, act_at, few_so_far}
use Rattle.sampling_port.proofs.run.record.Goals as goal

pub act-requires : goal.act-requires
act-requires c =
    let world = world_of c.args.scenario.now in
    let i = c.loop-act.act-index in
    let inside = rw c.items-act-items.ensures at c.loop-act-test.true in
    let at = rw c.items-act-items.ensures at c.act-item.is in
    let few = few_so_far world.acts i c.act-item.result inside at in
    let all = c.args.scenario.now.world.turns in
    (world, front_of world, schedule (take i world.acts), c.loop-act.invariant, act_at world i c.act-item.result c.args.scenario.now.world inside at, omega arith)

pub loop-act-preserved : goal.loop-act-preserved
loop-act-preserved c =
    let world = world_of c.args.scenario.now in
    let i = c.loop-act.act-index in
    let inside = rw c.items-act-items.ensures at c.loop-act-test.true in
    let at = rw c.items-act-items.ensures at c.act-item.is in
    let few = few_so_far world.acts i c.act-item.result inside at in
    let all = c.args.scenario.now.world.turns in
    one_act world (front_of world) world.acts i c.act-item.result c.act.new.self inside at
    (c.in_ok-act.ensures world (front_of world) (schedule (take i world.acts)) (act_at world i c.act-item.result c.args.scenario.now.world inside at) (omega arith) c.loop-act.invariant)
