use Rattle.pair_sessions.proofs.SessionsArePaired.{sessions_are_paired}
use Rattle.pair_sessions.proofs.sessions_are_paired.Goals as goal

pub returns : goal.returns
returns c = sessions_are_paired
