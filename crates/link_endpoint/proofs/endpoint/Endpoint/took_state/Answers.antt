use Rattle.std.proofs.Common.{arith}
use Rattle.std.proofs.lemmas.Grind.{common_steps}
use Rattle.call_grammar.specs.Ends.{end_after}
use Rattle.call_grammar.specs.Places as places
use Rattle.link_endpoint.specs.Representation.{engine_of}
use Rattle.link_endpoint.proofs.EngineAfterStep.{kept_with}
use Rattle.link_endpoint.proofs.endpoint.Endpoint.took_state.Goals as goal

pub invariant_of-self : goal.invariant_of-self
invariant_of-self c =
    let kept = c.self.invariant in
    let config = (engine_of c.self.inside).config in
    kept_with c.self.inside _ _ _ _ kept kept.receiver (grind (arith, common_steps)) (grind (arith, common_steps))
    (record { end = end_after kept.end (places.step_at config kept.at c.args.value); place = places.next_place config kept.at c.args.value; refines = grind (arith, common_steps) })
