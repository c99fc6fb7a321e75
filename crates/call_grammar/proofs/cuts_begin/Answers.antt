use Rattle.call_grammar.proofs.Cuts.{cuts}
use Rattle.call_grammar.proofs.cuts_begin.Goals as goal

pub returns : goal.returns
returns c = cuts
