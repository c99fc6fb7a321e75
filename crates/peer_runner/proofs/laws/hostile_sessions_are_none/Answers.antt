use Rattle.peer_runner.proofs.SessionWords.{hostile_sessions_are_none}
use Rattle.peer_runner.proofs.laws.hostile_sessions_are_none.Goals as goal

pub returns : goal.returns
returns c = hostile_sessions_are_none
