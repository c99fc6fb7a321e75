use Rattle.std.proofs.Common.{◌++◌, sym, subst, ℕ, List}
use Rattle.lawful_history.specs.declared.line.Line.{Line}
use Rattle.link_model.specs.ExpectedRun.{world_in, GoesOn}
use Rattle.trace_replay.specs.Beside.{IsBeside}
use Rattle.trace_replay.proofs.TextAndHistory.{went_past, stayed, both_go_on}
use Rattle.trace_replay.proofs.beside.pass_alike.Goals.{then-is_empty-via-then-is_empty, then-is_empty-via-else-is_empty+in_ok-pass+then-not-branch}
use Rattle.trace_replay.proofs.beside.pass_alike.Goals as goal

pub returns-then-is_empty : goal.returns-then-is_empty
returns-then-is_empty c = λ bytes beside.
    let now = c.loop-waiting.invariant.beside bytes beside in
    let expected_run = c.loop-waiting.expected_run in
    elim c.then-is_empty.branch [
      | then-is_empty-via-then-is_empty w ↦ rw w.reader-is now
      | then-is_empty-via-else-is_empty+in_ok-pass+then-not-branch w ↦ rw w.reader-is (record {
        lines = now.lines;
        reads = stayed bytes expected_run.version (world_in expected_run) now.lines c.waiting-waiting.result.now _ w.pass.new.self w.if-not-branch.true (w.in_ok-pass.ensures.past bytes expected_run.version (world_in expected_run) now.lines now.reads);
        goes = now.goes;
      })
    ]

pub loop-waiting-preserved : goal.loop-waiting-preserved
loop-waiting-preserved c =
    let expected_run = c.loop-waiting.expected_run in
    let on : (bytes : List ℕ) → IsBeside bytes expected_run c.loop-waiting.reader → IsBeside bytes c.pass-in-loop-waiting.new.self c.pass.new.self = λ bytes beside.
    let reads = went_past bytes expected_run.version (world_in expected_run) beside.lines c.waiting-waiting.result.now _ c.pass.new.self c.if-not-branch.false (c.in_ok-pass.ensures.past bytes expected_run.version (world_in expected_run) beside.lines beside.reads) in
    both_go_on bytes expected_run c.pass-in-loop-waiting.new.self c.pass.new.self (beside.lines ++ c.waiting-waiting.result.now) c.in_ok-pass-2.ensures.scenario c.in_ok-pass-2.ensures.version reads
    (subst (λ (ls : List Line). GoesOn (beside.lines ++ ls) c.pass-in-loop-waiting.new.self) (sym c.waiting-waiting.ensures.waiting) (c.in_ok-pass-2.ensures.on beside.lines beside.goes)) in
    record {
      beside = λ bytes beside. on bytes (c.loop-waiting.invariant.beside bytes beside);
      some = (c.loop-waiting.invariant.some.0, on c.loop-waiting.invariant.some.0 c.loop-waiting.invariant.some.1);
    }
