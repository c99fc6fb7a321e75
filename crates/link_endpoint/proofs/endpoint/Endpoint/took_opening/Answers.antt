use Rattle.std.proofs.Common.{◌≡◌, ℕ, [], ◌∷◌, subst, arith}
use Rattle.std.proofs.lemmas.Grind.{common_steps}
use Rattle.split_ring.specs.declared.steps.Note.TheVariants as note
use Rattle.call_grammar.specs.Ends.{end_after}
use Rattle.call_grammar.specs.Places as places
use Rattle.link_endpoint.specs.declared.place.Place.TheVariants.{Closed}
use Rattle.link_endpoint.specs.Engine.{Engine}
use Rattle.link_endpoint.specs.Representation.{engine_of}
use Rattle.link_endpoint.specs.Refinement.{RefinesAt, Takes}
use Rattle.link_endpoint.proofs.StateStep.{opens_session}
use Rattle.link_endpoint.proofs.endpoint.Endpoint.took_opening.Goals as goal

taken : (c : goal.After-push) (value : ℕ) → Takes (engine_of c.self.inside) value (note.Over ∷ []) (engine_of (record (c.self.inside) { handshake = c.enter.new.self; place = Closed; tx = c.reset.new.self; rx = c.reset-2.new.self }))
taken c value = opens_session (engine_of c.self.inside) _ value c.self.invariant.sections (grind (arith, common_steps)) (grind (arith, common_steps)) c.reset.ensures.refines c.reset-2.ensures.refines (grind (arith, common_steps)) (grind (arith, common_steps))

pub returns-clause-steps : goal.returns-clause-steps
returns-clause-steps c = λ value. rw (← c.self.view_is, c.push.ensures.items, c.requires.empty) (taken c value)

pub invariant_of-self : goal.invariant_of-self
invariant_of-self c =
    let kept = c.self.invariant in
    let config = (engine_of c.self.inside).config in
    let new : Engine = engine_of (record (c.self.inside) { handshake = c.enter.new.self; place = Closed; tx = c.reset.new.self; rx = c.reset-2.new.self }) in
    let same : config ≡ new.config = grind (arith, common_steps) in
    record {
      sections = grind (arith, common_steps);
      own_room = grind (arith, common_steps);
      their_room = grind (arith, common_steps);
      sender = grind (arith, common_steps);
      receiver = grind (arith, common_steps);
      mark = grind (arith, common_steps);
      left = grind (arith, common_steps);
      end = end_after kept.end (places.step_at config kept.at 0);
      at = places.next_place config kept.at 0;
      refines = subst (λ w. RefinesAt new w (end_after kept.end (places.step_at config kept.at 0)) (places.next_place config kept.at 0)) same ((taken c 0).refines config kept.end kept.at kept.refines);
    }
