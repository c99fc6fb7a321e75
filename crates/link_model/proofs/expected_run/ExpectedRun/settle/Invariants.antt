use Rattle.std.proofs.Common.{◌≡◌, List}
use Rattle.lawful_history.specs.declared.line.Line.{Line}
use Rattle.link_model.specs.ExpectedRun.{IsAlong, remains}
use Rattle.link_model.proofs.expected_run.ExpectedRun.settle.Given as goal

abbrev pub invariant-loop-self : goal.invariant-loop-self
invariant-loop-self l = record {
  along : (lines : List Line) → IsAlong lines l.initial.self → IsAlong lines l.self;
  some : (lines : List Line) × IsAlong lines l.self;
  scenario : l.self.scenario ≡ l.initial.self.scenario;
  version : l.self.version ≡ l.initial.self.version;
}

abbrev pub decreases-loop-self : goal.decreases-loop-self
decreases-loop-self l = remains l.self
