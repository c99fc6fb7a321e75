use Rattle.std.proofs.Common.{ℕ, List, [], ◌∷◌, ◌++◌, ◌≡◌, ◌+◌, length, length-append, ap, ◌∙◌}
use Rattle.link_model.specs.ExpectedRun.{world_in}
use Rattle.trace_replay.specs.Beside.{IsBeside}
use Rattle.trace_replay.proofs.TextAndHistory.{both_go_on, leaves, is_short, is_same, passed_on}
use Rattle.trace_replay.proofs.beside.judge.Goals as goal

pub returns-in_err-line-clause-refused : goal.returns-in_err-line-clause-refused
returns-in_err-line-clause-refused c = λ bytes first.
    let beside = c.loop-line.invariant.beside bytes first in
    let expected_run = c.loop-line.expected_run in
    passed_on bytes c.in_err-line.field-0.0 c.from_residual.result c.from_residual.ensures.1 (c.in_err-line.ensures.reads bytes expected_run.version (world_in expected_run) beside.lines beside.reads)

pub returns-in_err-read_on-in-Err-Unlawful-clause-refused : goal.returns-in_err-read_on-in-Err-Unlawful-clause-refused
returns-in_err-read_on-in-Err-Unlawful-clause-refused c = λ bytes first.
    let beside = c.loop-line.invariant.beside bytes first in
    let expected_run = c.loop-line.expected_run in
    let reads = rw c.in-Some.is at (c.in_ok-line.ensures.reads bytes expected_run.version (world_in expected_run) beside.lines beside.reads) in
    passed_on bytes c.in_err-read_on-in-Err-Unlawful.field-0.0 c.from_residual-in_err-read_on-in-Err-Unlawful.result c.from_residual-in_err-read_on-in-Err-Unlawful.ensures.1
    (c.in_err-read_on-in-Err-Unlawful.ensures.refused bytes expected_run.version (world_in expected_run) (beside.lines ++ c.in-Some.line ∷ []) reads.0)

pub returns-in-Err-Unlawful-clause-verdict : goal.returns-in-Err-Unlawful-clause-verdict
returns-in-Err-Unlawful-clause-verdict c = λ bytes first.
    let beside = c.loop-line.invariant.beside bytes first in
    let expected_run = c.loop-line.expected_run in
    let lines = beside.lines ++ c.in-Some.line ∷ [] in
    let reads = rw c.in-Some.is at (c.in_ok-line.ensures.reads bytes expected_run.version (world_in expected_run) beside.lines beside.reads) in
    let number : c.next.new.self.count ≡ length beside.lines + 1 = reads.0.count ∙ length-append beside.lines (c.in-Some.line ∷ []) in
    let left = rw c.in-Err-Unlawful.field-0-is at (c.in-Err-Unlawful.ensures.cause beside.lines beside.goes number) in
    leaves bytes expected_run.version (world_in expected_run) lines c.in-Err-Unlawful.fault (c.in_ok-read_on-in-Err-Unlawful.ensures.read bytes expected_run.version (world_in expected_run) lines reads.0) left

pub loop-line-preserved : goal.loop-line-preserved
loop-line-preserved c =
    let expected_run = c.loop-line.expected_run in
    let on : (bytes : List ℕ) → IsBeside bytes expected_run c.loop-line.reader → IsBeside bytes c.take.new.self c.next.new.self = λ bytes beside.
    let reads = rw c.in-Some.is at (c.in_ok-line.ensures.reads bytes expected_run.version (world_in expected_run) beside.lines beside.reads) in
    both_go_on bytes expected_run c.take.new.self c.next.new.self (beside.lines ++ c.in-Some.line ∷ []) c.in-Ok.ensures.scenario c.in-Ok.ensures.version reads.0 (c.in-Ok.ensures.on beside.lines beside.goes) in
    record {
      beside = λ bytes beside. on bytes (c.loop-line.invariant.beside bytes beside);
      some = (c.loop-line.invariant.some.0, on c.loop-line.invariant.some.0 c.loop-line.invariant.some.1);
    }

pub loop-line-preserved-in-Ok : goal.loop-line-preserved-in-Ok
loop-line-preserved-in-Ok c =
    let expected_run = c.loop-line.expected_run in
    let on : (bytes : List ℕ) → IsBeside bytes expected_run c.loop-line.reader → IsBeside bytes c.take.new.self c.next.new.self = λ bytes beside.
    let reads = rw c.in-Some.is at (c.in_ok-line.ensures.reads bytes expected_run.version (world_in expected_run) beside.lines beside.reads) in
    both_go_on bytes expected_run c.take.new.self c.next.new.self (beside.lines ++ c.in-Some.line ∷ []) c.in-Ok.ensures.scenario c.in-Ok.ensures.version reads.0 (c.in-Ok.ensures.on beside.lines beside.goes) in
    record {
      beside = λ bytes beside. on bytes (c.loop-line.invariant.beside bytes beside);
      some = (c.loop-line.invariant.some.0, on c.loop-line.invariant.some.0 c.loop-line.invariant.some.1);
    }

pub loop-line-preserved-in-Ok-2 : goal.loop-line-preserved-in-Ok-2
loop-line-preserved-in-Ok-2 c =
    let expected_run = c.loop-line.expected_run in
    let on : (bytes : List ℕ) → IsBeside bytes expected_run c.loop-line.reader → IsBeside bytes c.take.new.self c.next.new.self = λ bytes beside.
    let reads = rw c.in-Some.is at (c.in_ok-line.ensures.reads bytes expected_run.version (world_in expected_run) beside.lines beside.reads) in
    both_go_on bytes expected_run c.take.new.self c.next.new.self (beside.lines ++ c.in-Some.line ∷ []) c.in-Ok.ensures.scenario c.in-Ok.ensures.version reads.0 (c.in-Ok.ensures.on beside.lines beside.goes) in
    record {
      beside = λ bytes beside. on bytes (c.loop-line.invariant.beside bytes beside);
      some = (c.loop-line.invariant.some.0, on c.loop-line.invariant.some.0 c.loop-line.invariant.some.1);
    }

pub returns-in-Ok-close-clause-verdict : goal.returns-in-Ok-close-clause-verdict
returns-in-Ok-close-clause-verdict c = λ bytes first.
    let beside = c.loop-line.invariant.beside bytes first in
    let expected_run = c.loop-line.expected_run in
    let spelled = rw c.in_default.is at (c.in_ok-line.ensures.reads bytes expected_run.version (world_in expected_run) beside.lines beside.reads) in
    is_same bytes expected_run.version (world_in expected_run) beside.lines spelled.0 (c.in-Ok-close.ensures beside.lines beside.goes (ap (λ n. n + 1) spelled.1))

pub returns-in-Err-clause-verdict : goal.returns-in-Err-clause-verdict
returns-in-Err-clause-verdict c = λ bytes first.
    let beside = c.loop-line.invariant.beside bytes first in
    let expected_run = c.loop-line.expected_run in
    let spelled = rw c.in_default.is at (c.in_ok-line.ensures.reads bytes expected_run.version (world_in expected_run) beside.lines beside.reads) in
    is_short bytes expected_run.version (world_in expected_run) beside.lines c.in-Err.fault spelled.0 (c.in-Err.ensures beside.lines beside.goes (ap (λ n. n + 1) spelled.1))
