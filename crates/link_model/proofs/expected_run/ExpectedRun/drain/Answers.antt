use Rattle.std.proofs.Common.{◌++◌, ap, sym, ◌∙◌, arith}
use Rattle.std.proofs.lemmas.List.{append-nil, take_all}
use Rattle.simulator.specs.Log.{given}
use Rattle.simulator.specs.Simulator.{kept_lines}
use Rattle.link_model.specs.ExpectedRun.{world_in}
use Rattle.link_model.proofs.expected_run.ExpectedRun.drain.Goals as goal

pub returns-clause-along : goal.returns-clause-along
returns-clause-along c = λ lines along.
    let expected_run = c.args.self.now in
    let waiting = kept_lines expected_run.simulator in
    let played = along.played in
    let all = c.requires in
    record {
      output = given along.output waiting;
      played = record {
        events = played.events;
        version = played.version;
        runs = c.drain.ensures.on (world_in expected_run) along.output played.events played.runs;
        at = played.at;
        scheduled = played.scheduled;
        peer = played.peer;
      };
      passed = omega arith;
      taken = append-nil (along.output.drained ++ waiting) ∙ ap (λ ls. along.output.drained ++ ls) (sym (take_all expected_run.passed waiting (omega arith))) ∙ along.taken;
    }
