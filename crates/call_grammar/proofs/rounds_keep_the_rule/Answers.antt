use Rattle.call_grammar.proofs.AutomaticRounds.{rounds_keep_the_rule}
use Rattle.call_grammar.proofs.rounds_keep_the_rule.Goals as goal

pub returns : goal.returns
returns c = rounds_keep_the_rule
