use Rattle.std.proofs.Common.{Ok, refl, sym, ap, rules}
use Rattle.line_format.proofs.AnswerLaws.{exact_ok, exact_err, only_answer}
use Rattle.scenario_text.specs.Spelling.{world_of}
use Rattle.scenario_text.specs.Judge.{machine, sense}
use Rattle.scenario_text.specs.Drafts.{draft_view}
use Rattle.scenario_text.proofs.SpelledIsRead.{is_forward}
use Rattle.scenario_text.proofs.ReadIsSpelled.{is_whole, is_spelled}
use Rattle.scenario_text.proofs.reading.parse.Goals as goal

pub returns-in_err-read_text : goal.returns-in_err-read_text
returns-in_err-read_text c =
    let exact = exact_err machine sense refl world_of c.args.bytes.now draft_view c.in_err-read_text.field-0.0 c.from_residual.result c.from_residual.ensures.1 c.new.ensures c.in_err-read_text.ensures in
    record { found = search rules; only = only_answer is_forward world_of c.args.bytes.now c.from_residual.result exact; exact = exact }

pub finish-requires-clause-ended : goal.finish-requires-clause-ended
finish-requires-clause-ended c = (is_whole c.args.bytes.now (draft_view c.in_ok-read_text.field-0) (rw c.new.ensures at c.in_ok-read_text.ensures)).0

pub finish-requires-clause-world : goal.finish-requires-clause-world
finish-requires-clause-world c = (is_whole c.args.bytes.now (draft_view c.in_ok-read_text.field-0) (rw c.new.ensures at c.in_ok-read_text.ensures)).1

pub returns : goal.returns
returns c =
    let exact = exact_ok machine sense c.args.bytes.now c.new.ensures c.in_ok-read_text.ensures (ap (λ x. Ok x) (sym c.finish.ensures)) in
    record { found = is_spelled c.args.bytes.now (draft_view c.in_ok-read_text.field-0) _ (rw c.new.ensures at c.in_ok-read_text.ensures) c.finish.ensures; only = only_answer is_forward world_of c.args.bytes.now (Ok c.finish.result) exact; exact = exact }
