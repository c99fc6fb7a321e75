use Rattle.std.proofs.Common.{◌≡◌, sym, ◌∙◌, refl, None, Some, arith}
use Rattle.std.proofs.lemmas.Grind.{common_steps}
use Rattle.link_endpoint.specs.declared.place.Place.TheVariants.{Closed, Refusing, Polling}
use Rattle.link_endpoint.specs.Engine.{refused_after}
use Rattle.link_endpoint.specs.Representation.{engine_of}
use Rattle.link_endpoint.specs.Refinement.{Takes}
use Rattle.link_endpoint.proofs.EngineAfterStep.{stands, kept_received}
use Rattle.link_endpoint.proofs.RefusedEndsStay.{none_left, away_refused, away_none}
use Rattle.link_endpoint.proofs.ReceiverSteps.{takes_refused, takes_end, takes_on}
use Rattle.link_endpoint.proofs.endpoint.Endpoint.took_poll.Goals as goal

-- A value was refused.
refused : (c : goal.After-self-in-Some-1) → Takes (engine_of c.self.inside) c.args.value c.took_into.new.notes.items (engine_of (record (c.self.inside) { refused = Some c.in-Some.refused; place = Refusing; rx = c.took_into.new.self }))
refused c =
    let i = c.self.inside in
    let kept = c.self.invariant in
    let found : refused_after c.took_into.new.notes.items None ≡ Some c.in-Some.refused = sym c.refused_in.ensures ∙ c.in-Some.is in
    let polls : i.place ≡ Polling = grind (arith, common_steps) in
    takes_refused (engine_of i) c.args.value c.took_into.new.notes.items c.took_into.new.self c.in-Some.refused (engine_of i).config kept.end kept.at polls c.took_into.ensures.steps kept.refines found

pub returns-in-Some-clause-steps : goal.returns-in-Some-clause-steps
returns-in-Some-clause-steps c = rw (← c.self.view_is) (refused c)

pub invariant_of-self : goal.invariant_of-self
invariant_of-self c = kept_received c.self.inside _ Refusing _ c.self.invariant c.took_into.ensures.kept (λ other. absurd (other refl)) (λ is. tt) (stands _ _ _ _ c.self.invariant (refused c))

-- The poll is over.
over : (c : goal.After-self-then-not-busy-1) → Takes (engine_of c.self.inside) c.args.value c.took_into.new.notes.items (engine_of (record (c.self.inside) { place = Closed; rx = c.took_into.new.self }))
over c =
    let i = c.self.inside in
    let kept = c.self.invariant in
    let none : refused_after c.took_into.new.notes.items None ≡ None = sym c.refused_in.ensures ∙ c.in_default.is in
    let polls : i.place ≡ Polling = grind (arith, common_steps) in
    takes_end (engine_of i) c.args.value c.took_into.new.notes.items c.took_into.new.self c.busy.result (engine_of i).config kept.end kept.at polls c.took_into.ensures.steps kept.refines none c.busy.ensures.open c.if-not-busy.true

pub returns-then-not-busy-clause-steps : goal.returns-then-not-busy-clause-steps
returns-then-not-busy-clause-steps c = rw (← c.self.view_is) (over c)

-- The poll is still open.
going : (c : goal.Else-not-busy) → Takes (engine_of c.self.inside) c.args.value c.took_into.new.notes.items (engine_of (record (c.self.inside) { rx = c.took_into.new.self }))
going c =
    let i = c.self.inside in
    let kept = c.self.invariant in
    let none : refused_after c.took_into.new.notes.items None ≡ None = sym c.refused_in.ensures ∙ c.in_default.is in
    let polls : i.place ≡ Polling = grind (arith, common_steps) in
    takes_on (engine_of i) c.args.value c.took_into.new.notes.items c.took_into.new.self c.busy.result (engine_of i).config kept.end kept.at polls c.took_into.ensures.steps kept.refines none c.busy.ensures.open c.if-not-busy.false

pub returns-else-not-busy-clause-steps : goal.returns-else-not-busy-clause-steps
returns-else-not-busy-clause-steps c = rw (← c.self.view_is) (going c)

pub invariant_of-self-else-not-busy : goal.invariant_of-self-else-not-busy
invariant_of-self-else-not-busy c = kept_received c.self.inside _ c.self.inside.place _ c.self.invariant c.took_into.ensures.kept c.self.invariant.mark c.self.invariant.left (stands _ _ _ _ c.self.invariant (going c))

pub invariant_of-self-then-not-busy : goal.invariant_of-self-then-not-busy
invariant_of-self-then-not-busy c = kept_received c.self.inside _ Closed _ c.self.invariant c.took_into.ensures.kept (λ other. c.self.invariant.mark (grind (arith, common_steps)))
    (λ is. absurd (none_left (engine_of c.self.inside) (grind (arith, common_steps)) c.self.invariant.left is)) (stands _ _ _ _ c.self.invariant (over c))

-- After a refusal the step satisfies `KeepsAway`.
pub returns-in-Some-clause-leaving : goal.returns-in-Some-clause-leaving
returns-in-Some-clause-leaving c =
    let found : refused_after c.took_into.new.notes.items None ≡ Some c.in-Some.refused = sym c.refused_in.ensures ∙ c.in-Some.is in
    rw (← c.self.view_is) (away_refused (engine_of c.self.inside) _ c.args.value c.took_into.new.notes.items c.in-Some.refused (grind (arith, common_steps)) c.self.invariant.left found refl refl)

pub returns-then-not-busy-clause-leaving : goal.returns-then-not-busy-clause-leaving
returns-then-not-busy-clause-leaving c =
    let none : refused_after c.took_into.new.notes.items None ≡ None = sym c.refused_in.ensures ∙ c.in_default.is in
    rw (← c.self.view_is) (away_none (engine_of c.self.inside) _ c.args.value c.took_into.new.notes.items (grind (arith, common_steps)) c.self.invariant.left none)

pub returns-else-not-busy-clause-leaving : goal.returns-else-not-busy-clause-leaving
returns-else-not-busy-clause-leaving c =
    let none : refused_after c.took_into.new.notes.items None ≡ None = sym c.refused_in.ensures ∙ c.in_default.is in
    rw (← c.self.view_is) (away_none (engine_of c.self.inside) _ c.args.value c.took_into.new.notes.items (grind (arith, common_steps)) c.self.invariant.left none)
