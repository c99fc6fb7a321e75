use Rattle.call_grammar.proofs.PollEnds.{returning}
use Rattle.call_grammar.proofs.polls_that_return_ring.Goals as goal

pub returns : goal.returns
returns c = returning
