use Rattle.history_laws.proofs.RefusalRows.{refused_peers_stay_in_reset}
use Rattle.history_laws.proofs.refused_peers_stay_in_reset.Goals as goal

pub returns : goal.returns
returns c = refused_peers_stay_in_reset
