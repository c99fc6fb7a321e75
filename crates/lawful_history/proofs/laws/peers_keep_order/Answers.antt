use Rattle.lawful_history.proofs.PeersKeepOrder.{keeps_order}
use Rattle.lawful_history.proofs.laws.peers_keep_order.Goals as goal

pub returns : goal.returns
returns c = keeps_order
