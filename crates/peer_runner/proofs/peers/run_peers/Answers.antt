use Rattle.std.proofs.Common.{sym, ap, ◌∙◌, subst, arith}
use Rattle.std.specs.Prelude.{IfOk}
use Rattle.scenario_text.specs.Spelling.{world_of}
use Rattle.section_map.specs.Geometry.{Shape}
use Rattle.peer_runner.specs.Drives.{RanAll}
use Rattle.peer_runner.proofs.ThreadsMakeRun.{peers_are, is_run, whole_lists, recorded_whole}
use Rattle.peer_runner.proofs.peers.run_peers.Goals as goal

pub invariant_of-result : goal.invariant_of-result
invariant_of-result g c = let world = world_of c.args.scenario in let key = c.args.words.now.shared.key in let ran = c.run_range-traces.ensures in
    let all : RanAll world key 0 ran.0 c.in_ok-traces.field-0.items = subst (λ r. IfOk r (λ traces. RanAll world key 0 ran.0 traces.items)) c.in_ok-traces.was ran.3 in
    record { running = peers_are world key ran.0 c.in_ok-traces.field-0.items c.in_ok-peers.peers (ran.2 ∙ c.peers-peers.ensures.value) c.in_ok-peers.ensures all }

pub returns-clause-run : goal.returns-clause-run
returns-clause-run g c = let world = world_of c.args.scenario in let key = c.args.words.now.shared.key in let ran = c.run_range-traces.ensures in let whole = c.requires.whole in
    let all : RanAll world key 0 ran.0 c.in_ok-traces.field-0.items = subst (λ r. IfOk r (λ traces. RanAll world key 0 ran.0 traces.items)) c.in_ok-traces.was ran.3 in
    let size = ran.2 ∙ c.peers-peers.ensures.value in let two = c.args.scenario.world.geometry.two_peers in
    is_run world key c.join_pass.new.pass ran.0 c.in_ok-traces.field-0.items c.in_ok-peers.peers whole.0 (omega arith) size
    (whole_lists _ c.args.pass.now c.split_pass-all.new.pass c.learn.new.pass c.join_pass.new.pass ran.0 whole.2 c.split_pass-all.ensures.left (c.learn.ensures.same ∙ ran.1) c.join_pass.ensures) c.in_ok-peers.ensures all
    (recorded_whole key _ c.run_range-traces.result.1 ran.0 ran.1 (size ∙ ap (λ (s : Shape). s.peers) (sym whole.0.geometry)) c.learn.ensures.learned)
