use Rattle.std.proofs.Common.{◌≡◌, subst, sym, ◌∙◌, refl, None, Some, arith}
use Rattle.std.proofs.lemmas.Grind.{common_steps}
use Rattle.link_endpoint.specs.declared.place.Place.TheVariants.{Closed, Refusing, Offering}
use Rattle.link_endpoint.specs.Engine.{refused_after}
use Rattle.link_endpoint.specs.Representation.{engine_of}
use Rattle.link_endpoint.specs.Refinement.{Takes}
use Rattle.link_endpoint.proofs.EngineAfterStep.{KeepsNumbers, seen_sent, stands, kept_sent}
use Rattle.link_endpoint.proofs.RefusedEndsStay.{none_left, away_refused, away_none}
use Rattle.link_endpoint.proofs.SenderSteps.{takes_refused, takes_end, takes_on}
use Rattle.link_endpoint.proofs.endpoint.Endpoint.took_offer.Goals as goal

-- A value was refused.
refused : (c : goal.After-self-in-Some-1) → KeepsNumbers c.self.inside.tx c.took_into.new.self × Takes (engine_of c.self.inside) c.args.value c.took_into.new.notes.items (engine_of (record (c.self.inside) { refused = Some c.in-Some.refused; place = Refusing; tx = c.took_into.new.self }))
refused c =
    let i = c.self.inside in
    let kept = c.self.invariant in
    let keeps : KeepsNumbers i.tx c.took_into.new.self = grind (arith, common_steps, c.took_into.ensures.kept) in
    let found : refused_after c.took_into.new.notes.items None ≡ Some c.in-Some.refused = sym c.refused_in.ensures ∙ c.in-Some.is in
    let offers : i.place ≡ Offering = grind (arith, common_steps) in
    let taken = takes_refused (engine_of i) c.args.value c.took_into.new.notes.items c.took_into.new.self c.in-Some.refused (engine_of i).config kept.end kept.at offers c.took_into.ensures kept.refines found in
    (keeps, subst (λ e. Takes (engine_of i) c.args.value c.took_into.new.notes.items e) (seen_sent i c.took_into.new.self (Some c.in-Some.refused) Refusing keeps) taken)

pub returns-in-Some-clause-steps : goal.returns-in-Some-clause-steps
returns-in-Some-clause-steps c = rw (← c.self.view_is) (refused c).1

pub invariant_of-self : goal.invariant_of-self
invariant_of-self c = kept_sent c.self.inside _ Refusing _ c.self.invariant (refused c).0 (λ other. absurd (other refl)) (λ is. tt) (stands _ _ _ _ c.self.invariant (refused c).1)

-- The offer is over.
over : (c : goal.After-self-then-not-busy-1) → KeepsNumbers c.self.inside.tx c.took_into.new.self × Takes (engine_of c.self.inside) c.args.value c.took_into.new.notes.items (engine_of (record (c.self.inside) { place = Closed; tx = c.took_into.new.self }))
over c =
    let i = c.self.inside in
    let kept = c.self.invariant in
    let keeps : KeepsNumbers i.tx c.took_into.new.self = grind (arith, common_steps, c.took_into.ensures.kept) in
    let none : refused_after c.took_into.new.notes.items None ≡ None = sym c.refused_in.ensures ∙ c.in_default.is in
    let offers : i.place ≡ Offering = grind (arith, common_steps) in
    let taken = takes_end (engine_of i) c.args.value c.took_into.new.notes.items c.took_into.new.self c.busy.result (engine_of i).config kept.end kept.at offers c.took_into.ensures kept.refines none c.busy.ensures.bounds c.busy.ensures.place c.if-not-busy.true in
    (keeps, subst (λ e. Takes (engine_of i) c.args.value c.took_into.new.notes.items e) (seen_sent i c.took_into.new.self i.refused Closed keeps) taken)

pub returns-then-not-busy-clause-steps : goal.returns-then-not-busy-clause-steps
returns-then-not-busy-clause-steps c = rw (← c.self.view_is) (over c).1

-- The offer is still open.
going : (c : goal.Else-not-busy) → KeepsNumbers c.self.inside.tx c.took_into.new.self × Takes (engine_of c.self.inside) c.args.value c.took_into.new.notes.items (engine_of (record (c.self.inside) { tx = c.took_into.new.self }))
going c =
    let i = c.self.inside in
    let kept = c.self.invariant in
    let keeps : KeepsNumbers i.tx c.took_into.new.self = grind (arith, common_steps, c.took_into.ensures.kept) in
    let none : refused_after c.took_into.new.notes.items None ≡ None = sym c.refused_in.ensures ∙ c.in_default.is in
    let offers : i.place ≡ Offering = grind (arith, common_steps) in
    let taken = takes_on (engine_of i) c.args.value c.took_into.new.notes.items c.took_into.new.self c.busy.result (engine_of i).config kept.end kept.at offers c.took_into.ensures kept.refines none c.busy.ensures.bounds c.busy.ensures.place c.if-not-busy.false in
    (keeps, subst (λ e. Takes (engine_of i) c.args.value c.took_into.new.notes.items e) (seen_sent i c.took_into.new.self i.refused i.place keeps) taken)

pub returns-else-not-busy-clause-steps : goal.returns-else-not-busy-clause-steps
returns-else-not-busy-clause-steps c = rw (← c.self.view_is) (going c).1

pub invariant_of-self-else-not-busy : goal.invariant_of-self-else-not-busy
invariant_of-self-else-not-busy c = kept_sent c.self.inside _ c.self.inside.place _ c.self.invariant (going c).0 c.self.invariant.mark c.self.invariant.left (stands _ _ _ _ c.self.invariant (going c).1)

pub invariant_of-self-then-not-busy : goal.invariant_of-self-then-not-busy
invariant_of-self-then-not-busy c =
    kept_sent c.self.inside _ Closed _ c.self.invariant (over c).0 (λ other. c.self.invariant.mark (grind (arith, common_steps)))
    (λ is. absurd (none_left (engine_of c.self.inside) (grind (arith, common_steps)) c.self.invariant.left is)) (stands _ _ _ _ c.self.invariant (over c).1)

-- After a refusal the step satisfies `KeepsAway`.
pub returns-in-Some-clause-leaving : goal.returns-in-Some-clause-leaving
returns-in-Some-clause-leaving c =
    let found : refused_after c.took_into.new.notes.items None ≡ Some c.in-Some.refused = sym c.refused_in.ensures ∙ c.in-Some.is in
    rw (← c.self.view_is) (away_refused (engine_of c.self.inside) _ c.args.value c.took_into.new.notes.items c.in-Some.refused (grind (arith, common_steps)) c.self.invariant.left found refl refl)

pub returns-then-not-busy-clause-leaving : goal.returns-then-not-busy-clause-leaving
returns-then-not-busy-clause-leaving c =
    let none : refused_after c.took_into.new.notes.items None ≡ None = sym c.refused_in.ensures ∙ c.in_default.is in
    rw (← c.self.view_is) (away_none (engine_of c.self.inside) _ c.args.value c.took_into.new.notes.items (grind (arith, common_steps)) c.self.invariant.left none)

pub returns-else-not-busy-clause-leaving : goal.returns-else-not-busy-clause-leaving
returns-else-not-busy-clause-leaving c =
    let none : refused_after c.took_into.new.notes.items None ≡ None = sym c.refused_in.ensures ∙ c.in_default.is in
    rw (← c.self.view_is) (away_none (engine_of c.self.inside) _ c.args.value c.took_into.new.notes.items (grind (arith, common_steps)) c.self.invariant.left none)
