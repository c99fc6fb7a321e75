use Rattle.std.proofs.Common.{subst, sym, arith}
use Rattle.std.proofs.lemmas.Grind.{common_steps}
use Rattle.link_endpoint.specs.Refinement.{RefinesAt}
use Rattle.link_endpoint.specs.Representation.{engine_of}
use Rattle.link_endpoint.specs.declared.place.Place.TheVariants.{Polling}
use Rattle.link_endpoint.proofs.EndByPlace.{at_place}
use Rattle.link_endpoint.proofs.endpoint.Endpoint.next.Goals as goal

pub returns-in-Polling-clause-access : goal.returns-in-Polling-clause-access
returns-in-Polling-clause-access c = λ config end place refines.
    let inside = subst (λ e. RefinesAt e config end place) (sym c.self.view_is) refines in
    let at = at_place Polling (engine_of c.self.inside) config end place c.in-Polling.is inside in
    c.next-in-Polling.ensures.access config end place at.2

pub returns-in-Polling-clause-reach : goal.returns-in-Polling-clause-reach
returns-in-Polling-clause-reach c =
    let kept = c.self.invariant in
    let at = at_place Polling (engine_of c.self.inside) (engine_of c.self.inside).config kept.end kept.at c.in-Polling.is kept.refines in
    let reach = c.next-in-Polling.ensures.reach (engine_of c.self.inside).config kept.end kept.at kept.sections at.2 in
    grind (arith, common_steps)

pub returns-in-Polling-clause-nothing : goal.returns-in-Polling-clause-nothing
returns-in-Polling-clause-nothing c =
    let kept = c.self.invariant in
    let at = at_place Polling (engine_of c.self.inside) (engine_of c.self.inside).config kept.end kept.at c.in-Polling.is kept.refines in
    let access = c.next-in-Polling.ensures.access (engine_of c.self.inside).config kept.end kept.at at.2 in
    grind (arith, common_steps)
