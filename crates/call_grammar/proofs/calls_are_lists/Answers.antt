use Rattle.call_grammar.proofs.CallsAreLists.{lists}
use Rattle.call_grammar.proofs.calls_are_lists.Goals as goal

pub returns : goal.returns
returns c = lists
