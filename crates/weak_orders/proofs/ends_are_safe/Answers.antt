use Rattle.weak_orders.proofs.OneEnd.{ends_are_safe}
use Rattle.weak_orders.proofs.ends_are_safe.Goals as goal

pub returns : goal.returns
returns c = ends_are_safe
