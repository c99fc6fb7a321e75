use Rattle.std.proofs.Common.{arith}
use Rattle.std.proofs.lemmas.Grind.{common_steps}
use Rattle.call_grammar.specs.Ends.{end_after}
use Rattle.call_grammar.specs.Places as places
use Rattle.link_endpoint.specs.Representation.{engine_of}
use Rattle.link_endpoint.proofs.endpoint.Endpoint.took_refusal.Goals as goal

pub invariant_of-self : goal.invariant_of-self
invariant_of-self c =
    let kept = c.self.invariant in
    record {
      sections = grind (arith, common_steps);
      own_room = grind (arith, common_steps);
      their_room = grind (arith, common_steps);
      sender = grind (arith, common_steps);
      receiver = grind (arith, common_steps);
      mark = grind (arith, common_steps);
      left = grind (arith, common_steps);
      end = end_after kept.end (places.step_at (engine_of c.self.inside).config kept.at 0);
      at = places.Closed;
      refines = grind (arith, common_steps);
    }
