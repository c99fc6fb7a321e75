use Rattle.call_grammar.proofs.ItemWords.{spelled}
use Rattle.call_grammar.proofs.read_items_are_spelled.Goals as goal

pub returns : goal.returns
returns c = spelled
