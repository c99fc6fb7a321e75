use Rattle.call_grammar.proofs.CallsMeetBounds.{bounding, others_bounding}
use Rattle.call_grammar.proofs.calls_meet_bounds.Goals as goal

pub returns-clause-calls : goal.returns-clause-calls
returns-clause-calls c = bounding

pub returns-clause-others : goal.returns-clause-others
returns-clause-others c = others_bounding
