use Rattle.std.proofs.Common.{ℕ, [], ◌∷◌, arith}
use Rattle.std.proofs.lemmas.Grind.{common_steps}
use Rattle.split_ring.specs.declared.steps.Note.TheVariants as note
use Rattle.link_endpoint.specs.declared.place.Place.TheVariants.{Closed}
use Rattle.link_endpoint.specs.Representation.{engine_of}
use Rattle.link_endpoint.specs.Refinement.{Takes}
use Rattle.link_endpoint.proofs.EngineAfterStep.{stands, kept_with}
use Rattle.link_endpoint.proofs.StateStep.{sets_other}
use Rattle.link_endpoint.proofs.endpoint.Endpoint.took_set.Goals as goal

taken : (c : goal.After-push) (value : ℕ) → Takes (engine_of c.self.inside) value (note.Over ∷ []) (record (engine_of c.self.inside) { phase = c.enter.new.self.phase; place = Closed })
taken c value = sets_other (engine_of c.self.inside) _ c.args.state value (grind (arith, common_steps)) (grind (arith, common_steps)) (grind (arith, common_steps))

pub returns-clause-steps : goal.returns-clause-steps
returns-clause-steps c = λ value. rw (← c.self.view_is, c.push.ensures.items, c.requires.empty) (taken c value)

pub invariant_of-self : goal.invariant_of-self
invariant_of-self c =
    kept_with c.self.inside _ _ _ _ c.self.invariant c.self.invariant.receiver (grind (arith, common_steps)) (grind (arith, common_steps)) (stands _ _ 0 _ c.self.invariant (taken c 0))
