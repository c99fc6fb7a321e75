use Rattle.std.proofs.Common.{◌≡◌, ◌-◌, length, take, drop, arith, length-drop}
use Rattle.std.proofs.lemmas.List.{take_all}
use Rattle.simulator.specs.Simulator.{kept_lines}
use Rattle.link_model.proofs.HistoryContinues.{frames_wait}
use Rattle.link_model.proofs.expected_run.ExpectedRun.waiting.Goals as goal

pub returns-clause-frames : goal.returns-clause-frames
returns-clause-frames c =
    let lines = kept_lines c.args.self.now.simulator in
    let passed = c.args.self.now.passed in
    let rest = drop passed lines in
    let whole : take (length lines - passed) rest ≡ rest = take_all (length lines - passed) rest (omega (arith, length-drop passed lines)) in
    rw (c.lines.ensures, whole) (frames_wait c.requires.0 c.args.self.now c.requires.1)
