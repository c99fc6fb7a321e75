use Rattle.std.proofs.Common.{subst, sym, ◌∙◌}
use Rattle.frame_bridge.specs.BridgeView.{View, RefinesArrivals}
use Rattle.frame_bridge.specs.Representation.{bridge_view_of}
use Rattle.frame_bridge.proofs.OneMoreArrival.{known_counts}
use Rattle.frame_bridge.proofs.learning.Bridge.known.Goals as goal

pub returns-clause-count : goal.returns-clause-count
returns-clause-count c = λ arrivals refines.
    c.len.ensures.len ∙ known_counts (bridge_view_of c.self.inside) arrivals (subst (λ (v : View). RefinesArrivals v arrivals) (sym c.self.view_is) refines) c.len.ensures.ordered
