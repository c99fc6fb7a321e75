use Rattle.call_grammar.proofs.ReplaysAreCalls.{playing}
use Rattle.call_grammar.proofs.replays_are_calls.Goals as goal

pub returns : goal.returns
returns c = playing
