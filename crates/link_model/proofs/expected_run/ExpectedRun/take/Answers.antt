use Rattle.std.proofs.Common.{◌++◌, ◌∷◌, [], ◌∙◌, ap}
use Rattle.std.specs.Prelude.{Some}
use Rattle.link_model.specs.BrokenLaw.{law_between}
use Rattle.link_model.proofs.HistoryContinues.{breaks, one_taken}
use Rattle.link_model.proofs.expected_run.ExpectedRun.take.Goals as goal

pub returns-then-not-is_due-clause-cause : goal.returns-then-not-is_due-clause-cause
returns-then-not-is_due-clause-cause c = λ lines goes number.
    breaks c.records_hold_one_history.ensures.one c.records_hold_one_history.ensures.recorded lines c.args.self.now c.args.line.now _ goes (c.is_due.ensures.other c.if-not-is_due.true) number
    (c.broken_law-law.ensures ∙ ap (λ h. law_between h (Some c.args.line.now)) c.due.ensures)

pub settle-requires : goal.settle-requires
settle-requires c =
    let some = c.requires in
    (some.0 ++ c.args.line.now ∷ [], one_taken some.0 c.args.self.now c.args.line.now some.1.along (c.is_due.ensures.due c.if-not-is_due.false))

pub returns-clause-on : goal.returns-clause-on
returns-clause-on c = λ lines goes.
    c.in_ok-settle.ensures.on (lines ++ c.args.line.now ∷ []) (one_taken lines c.args.self.now c.args.line.now goes.along (c.is_due.ensures.due c.if-not-is_due.false))
