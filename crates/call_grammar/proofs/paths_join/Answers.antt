use Rattle.call_grammar.proofs.Joins.{joining}
use Rattle.call_grammar.proofs.paths_join.Goals as goal

pub returns : goal.returns
returns c = joining
