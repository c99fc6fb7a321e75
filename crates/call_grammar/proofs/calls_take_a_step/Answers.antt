use Rattle.call_grammar.proofs.CallsAreLists.{takes_a_step}
use Rattle.call_grammar.proofs.calls_take_a_step.Goals as goal

pub returns : goal.returns
returns c = takes_a_step
