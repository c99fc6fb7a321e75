use Rattle.call_grammar.proofs.PermittedPaths.{permitting}
use Rattle.call_grammar.proofs.paths_are_permitted.Goals as goal

pub returns : goal.returns
returns c = permitting
