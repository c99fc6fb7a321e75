use Rattle.peer_runner.proofs.SessionWords.{paired_sessions}
use Rattle.peer_runner.proofs.laws.sessions_are_paired.Goals as goal

pub returns : goal.returns
returns c = paired_sessions
