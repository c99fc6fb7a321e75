use Rattle.std.proofs.Common.{sym, ◌∙◌}
use Rattle.scenario_text.proofs.OneMoreAct.{no_flags, no_autos, no_storms, no_calls}
use Rattle.scenario_text.proofs.drafts.Draft.new.Goals as goal

pub invariant_of-result-clause-autos_of : goal.invariant_of-result-clause-autos_of
invariant_of-result-clause-autos_of c = λ p. no_flags p ∙ sym (rw c.new-2.ensures (no_autos p))

pub invariant_of-result-clause-storms_of : goal.invariant_of-result-clause-storms_of
invariant_of-result-clause-storms_of c = λ p. no_flags p ∙ sym (rw c.new-2.ensures (no_storms p))

pub invariant_of-result-clause-calls_of : goal.invariant_of-result-clause-calls_of
invariant_of-result-clause-calls_of c = λ p. no_flags p ∙ sym (rw c.new-2.ensures (no_calls p))
