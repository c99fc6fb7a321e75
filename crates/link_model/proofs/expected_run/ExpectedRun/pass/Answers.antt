use Rattle.std.proofs.Common.{◌++◌, drop}
use Rattle.simulator.specs.Simulator.{kept_lines}
use Rattle.link_model.proofs.HistoryContinues.{all_taken}
use Rattle.link_model.proofs.expected_run.ExpectedRun.pass.Goals as goal

pub play_part-requires-clause-along : goal.play_part-requires-clause-along
play_part-requires-clause-along c =
    let some = c.requires in
    (some.0 ++ drop c.args.self.now.passed (kept_lines c.args.self.now.simulator), rw c.lines.ensures (all_taken some.0 c.args.self.now some.1.along))

pub returns-clause-on : goal.returns-clause-on
returns-clause-on c = λ lines goes.
    c.play_part.ensures.on (lines ++ drop c.args.self.now.passed (kept_lines c.args.self.now.simulator)) (rw c.lines.ensures (all_taken lines c.args.self.now goes.along))
