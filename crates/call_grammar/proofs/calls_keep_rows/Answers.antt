use Rattle.call_grammar.proofs.CallsKeepRows.{rowing}
use Rattle.call_grammar.proofs.calls_keep_rows.Goals as goal

pub returns : goal.returns
returns c = rowing
