use Rattle.std.proofs.Common.{refl, sym}
use Rattle.link_model.proofs.HistoryContinues.{is_whole, misses}
use Rattle.link_model.proofs.expected_run.ExpectedRun.close.Goals as goal

pub returns-in-None : goal.returns-in-None
returns-in-None c = λ lines goes number. is_whole c.records_hold_one_history.ensures.recorded lines c.args.self.now goes (sym c.in-None.ensures)

pub returns-in-Some : goal.returns-in-Some
returns-in-Some c = λ lines goes number.
    misses c.records_hold_one_history.ensures.one c.records_hold_one_history.ensures.recorded lines c.args.self.now c.in-Some.field-0.now _ goes (sym c.in-Some.ensures) number refl
