use Rattle.peer_runner.proofs.StatesFromLists.{stores_are_owned}
use Rattle.peer_runner.proofs.laws.stores_are_owned.Goals as goal

pub returns : goal.returns
returns c = stores_are_owned
