use Rattle.call_grammar.proofs.CallsArePermitted.{reaching}
use Rattle.call_grammar.proofs.calls_are_permitted.Goals as goal

pub returns : goal.returns
returns c = reaching
