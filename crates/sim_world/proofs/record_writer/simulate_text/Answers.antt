use Rattle.std.proofs.Common.{ℕ, List, ◌++◌, refl, ap, ◌∙◌}
use Rattle.scenario_text.specs.Spelling.{world_of}
use Rattle.record_text.specs.Growing.{front_text}
use Rattle.record_text.proofs.SpelledIsRead.{is_answered}
use Rattle.sim_world.specs.RecordWriting.{lawful_record}
use Rattle.sim_world.proofs.DrainedHistories.{ended}
use Rattle.sim_world.proofs.record_writer.simulate_text.Goals as goal

pub returns-clause-spelled : goal.returns-clause-spelled
returns-clause-spelled c =
    let world = world_of c.args.scenario.now in
    let starts = c.in_ok-put_front.ensures ∙ ap (λ (t : List ℕ). t ++ front_text 2 world) c.new.ensures.items in
    ended c.parts_are_the_record.ensures.parts world 2 (record { text = c.put_front.new.out; count = 0 }) c.play.new.listener c.put_count.new.out.items (lawful_record 2 world).lines
    refl c.args.scenario.now.world starts refl c.in-Ok.ensures.received c.in_ok-put_count.ensures

pub returns-clause-again : goal.returns-clause-again
returns-clause-again c = is_answered (lawful_record 2 (world_of c.args.scenario.now)) c.put_count.new.out.items (returns-clause-spelled c)

pub returns-clause-lawful : goal.returns-clause-lawful
returns-clause-lawful c = c.records_hold_one_history.ensures.recorded (world_of c.args.scenario.now) 2 c.args.scenario.now.world
