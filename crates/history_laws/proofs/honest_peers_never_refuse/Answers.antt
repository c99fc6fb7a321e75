use Rattle.history_laws.proofs.RefusalRows.{honest_peers_never_refuse}
use Rattle.history_laws.proofs.honest_peers_never_refuse.Goals as goal

pub returns : goal.returns
returns c = honest_peers_never_refuse
