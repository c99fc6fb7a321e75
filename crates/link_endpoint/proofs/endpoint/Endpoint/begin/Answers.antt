use Rattle.std.proofs.Common.{◌≡◌, arith}
use Rattle.std.proofs.lemmas.Grind.{common_steps}
use Rattle.call_grammar.specs.Places as places
use Rattle.call_grammar.specs.Calls.{Poll}
use Rattle.link_endpoint.proofs.EndByPlace.{closed_at}
use Rattle.link_endpoint.proofs.EngineAfterStep.{kept_with}
use Rattle.link_endpoint.specs.Representation.{engine_of}
use Rattle.link_endpoint.proofs.endpoint.Endpoint.begin.Goals as goal

pub invariant_of-self-then-eq : goal.invariant_of-self-then-eq
invariant_of-self-then-eq c =
    let kept = c.self.invariant in
    let config = (engine_of c.self.inside).config in
    let closed : kept.at ≡ places.Closed = closed_at (engine_of c.self.inside) config kept.end kept.at (grind (arith, common_steps)) kept.refines in
    kept_with c.self.inside _ _ _ _ kept (grind (arith, common_steps)) (grind (arith, common_steps)) (grind (arith, common_steps))
    (record { end = kept.end; place = places.first_place config kept.end Poll; refines = grind (arith, common_steps) })
