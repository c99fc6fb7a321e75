use Rattle.call_grammar.proofs.CallPaths.{calls}
use Rattle.call_grammar.proofs.paths_are_calls.Goals as goal

pub returns : goal.returns
returns c = calls
