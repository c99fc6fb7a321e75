use Rattle.std.proofs.Common.{◌≡◌, subst, sym, None, arith}
use Rattle.std.proofs.lemmas.Grind.{common_steps}
use Rattle.call_grammar.specs.Ends.{fresh}
use Rattle.call_grammar.specs.Places as places
use Rattle.link_endpoint.specs.declared.place.Place.TheVariants.{Closed}
use Rattle.link_endpoint.specs.declared.endpoint.Endpoint.TheInside.{Inside}
use Rattle.link_endpoint.specs.Engine.{config_of, fresh_engine}
use Rattle.link_endpoint.specs.Representation.{engine_of}
use Rattle.link_endpoint.specs.Refinement.{RefinesAt}
use Rattle.link_endpoint.proofs.InitialEndpoint.{fresh_stands}
use Rattle.link_endpoint.proofs.endpoint.Endpoint.new.Goals as goal

inside : goal.In_ok-new-2 → Inside
inside c = record { other = c.if-me-eq0.other; own = c.section_start-own.result; words = c.out_words-words.result; handshake = c.new.result; refused = None; place = Closed; tx = c.in_ok-new.field-0; rx = c.in_ok-new-2.field-0 }

value : (c : goal.In_ok-new-2) → engine_of (inside c) ≡ fresh_engine (config_of c.args.geometry.now c.args.queue.now c.args.me c.args.traffic)
unfolding inside
value c = grind (arith, common_steps)

pub returns-clause-refines : goal.returns-clause-refines
unfolding inside
returns-clause-refines c = subst (λ e. RefinesAt e (config_of c.args.geometry.now c.args.queue.now c.args.me c.args.traffic) fresh places.Closed) (sym (value c)) (fresh_stands _)

pub invariant_of-result : goal.invariant_of-result
unfolding inside
invariant_of-result c = record {
  sections = record { queue = grind (arith, common_steps); words = grind (arith, common_steps) };
  own_room = grind (arith, common_steps);
  their_room = grind (arith, common_steps);
  sender = grind (arith, common_steps);
  receiver = grind (arith, common_steps);
  mark = grind (arith, common_steps);
  left = grind (arith, common_steps);
  end = fresh;
  at = places.Closed;
  refines = subst (λ e. RefinesAt e e.config fresh places.Closed) (sym (value c)) (fresh_stands _);
}
