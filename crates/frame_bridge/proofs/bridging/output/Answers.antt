use Rattle.std.proofs.Common.{◌≡◌}
use Rattle.std.proofs.lemmas.Result.{IfOk-weaker}
use Rattle.frame_bridge.specs.Spelling.{world_of}
use Rattle.frame_bridge.specs.Run.{World, started, schedule, ran}
use Rattle.frame_bridge.specs.Output.{IsOutput, output_of}
use Rattle.frame_bridge.specs.Refinement.{IsThere}
use Rattle.frame_bridge.proofs.Worlds.{started_going}
use Rattle.frame_bridge.proofs.OutputByParts.{is_output}
use Rattle.frame_bridge.proofs.bridging.output.Goals as goal

pub rounds-requires : goal.rounds-requires
rounds-requires c =
    let script = c.args.script in
    let there : IsThere script.sent script.ports (started script.sent) c.send.new.self = record {
      few = (c.requires.least, c.requires.most);
      going = started_going (world_of script) c.requires;
      refines = c.in_ok-send.ensures script.ports c.in_ok-run.ensures;
    } in
    (script.sent, script.ports, started script.sent, there)

pub finish-requires : goal.finish-requires
finish-requires c =
    let script = c.args.script in
    let there : IsThere script.sent script.ports (started script.sent) c.send.new.self = record {
      few = (c.requires.least, c.requires.most);
      going = started_going (world_of script) c.requires;
      refines = c.in_ok-send.ensures script.ports c.in_ok-run.ensures;
    } in
    (script.sent, script.ports, ran (started script.sent) (schedule script.rounds script.ports), c.in_ok-rounds.ensures script.sent script.ports (started script.sent) there)

pub returns : goal.returns
returns c =
    let script = c.args.script in
    let there : IsThere script.sent script.ports (started script.sent) c.send.new.self = record {
      few = (c.requires.least, c.requires.most);
      going = started_going (world_of script) c.requires;
      refines = c.in_ok-send.ensures script.ports c.in_ok-run.ensures;
    } in
    let w : World = ran (started script.sent) (schedule script.rounds script.ports) in
    let end : IsThere script.sent script.ports w c.rounds.new.self = c.in_ok-rounds.ensures script.sent script.ports (started script.sent) there in
    IfOk-weaker c.finish.result (λ v. v.items ≡ output_of script.ports w) (λ v. IsOutput (world_of script) v.items)
    (λ v is. is_output (world_of script) v.items end.going is) (c.finish.ensures script.sent script.ports w end)
