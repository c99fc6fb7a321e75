use Rattle.std.proofs.Common.{subst, sym}
use Rattle.link_endpoint.specs.Refinement.{RefinesAt}
use Rattle.link_endpoint.specs.Representation.{engine_of}
use Rattle.link_endpoint.specs.declared.place.Place.TheVariants.{Polling}
use Rattle.link_endpoint.proofs.EndByPlace.{at_place}
use Rattle.link_endpoint.proofs.endpoint.Endpoint.reads_ahead.Goals as goal

pub returns-in-Polling-clause-reads : goal.returns-in-Polling-clause-reads
returns-in-Polling-clause-reads c = λ config end place word refines first.
    let inside = subst (λ e. RefinesAt e config end place) (sym c.self.view_is) refines in
    let at = at_place Polling (engine_of c.self.inside) config end place c.in-Polling.is inside in
    c.reads_ahead.ensures.reads config end place word at.2 first
