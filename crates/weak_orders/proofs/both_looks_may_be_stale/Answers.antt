use Rattle.weak_orders.proofs.Worked.{both_looks_may_be_stale}
use Rattle.weak_orders.proofs.both_looks_may_be_stale.Goals as goal

pub returns : goal.returns
returns c = both_looks_may_be_stale
