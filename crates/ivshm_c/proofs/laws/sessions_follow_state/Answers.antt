use Rattle.ivshm_c.proofs.Sessions.{sessions_follow_state}
use Rattle.ivshm_c.proofs.laws.sessions_follow_state.Goals as goal

pub returns : goal.returns
returns c = sessions_follow_state c.phase_follows_state.ensures
