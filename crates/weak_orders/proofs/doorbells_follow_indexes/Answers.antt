use Rattle.weak_orders.proofs.DoorbellsFind.{doorbells_follow_indexes}
use Rattle.weak_orders.proofs.doorbells_follow_indexes.Goals as goal

pub returns : goal.returns
returns c = doorbells_follow_indexes
