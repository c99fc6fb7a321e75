use Rattle.weak_orders.proofs.Extend.{loads_may_be_stale}
use Rattle.weak_orders.proofs.loads_may_be_stale.Goals as goal

pub returns : goal.returns
returns c = loads_may_be_stale
