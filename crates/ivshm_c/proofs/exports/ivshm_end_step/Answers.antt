use Rattle.std.proofs.Common.{subst, sym, Some}
use Rattle.raw_box.specs.Handle.{Leads}
use Rattle.ivshm_c.specs.Answers.{TakesAnswered}
use Rattle.ivshm_c.proofs.exports.ivshm_end_step.Goals as goal

pub returns-clause-step : goal.returns-clause-step
returns-clause-step c =
    let S = TakesAnswered c.args.value c.args.notes.now c.stepped-status.new.notes in
    subst (λ p. Leads p S c.put.new.self.port) (sym c.in-Some.ensures.port)
    (subst (λ p. Leads (Some c.in-Some.port.value) S p) (sym c.put.ensures)
    (subst (λ p. S p c.stepped-status.new.port) c.deref_mut.ensures.value c.stepped-status.ensures.step))
