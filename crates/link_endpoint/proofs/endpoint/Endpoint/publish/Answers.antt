use Rattle.std.proofs.Common.{◌≡◌, Option, Some, None, refl, ap, sym, ◌∙◌, subst, IfSome}
use Rattle.tx_engine.specs.declared.ahead.Publication.{Publication}
use Rattle.tx_engine.specs.Publishing as sender
use Rattle.link_endpoint.specs.Engine.{Engine, bursts_at, bursts_of}
use Rattle.link_endpoint.specs.Representation.{engine_of, IsWellFormed}
use Rattle.link_endpoint.specs.Publishing.{Publishes}
use Rattle.link_endpoint.proofs.PublishSteps.{sent}
use Rattle.link_endpoint.proofs.endpoint.Endpoint.publish.Goals as goal

pub returns-in-Offering-clause-steps : goal.returns-in-Offering-clause-steps
returns-in-Offering-clause-steps c = pick c.publish.result refl
  where
    pick : (result : Option Publication) → c.publish.result ≡ result → IfSome result (λ made. Publishes c.args.self.now c.publish.new.tail made (engine_of (record (c.self.inside) { tx = c.publish.new.self })))
    pick None is = tt
    pick (Some made) is =
        let all = subst (λ (o : Option Publication). IfSome o (λ m. sender.Publishes c.self.inside.tx c.publish.new.tail m c.publish.new.self)) is c.publish.ensures.steps in
        rw (← c.self.view_is) (sent c.self.inside c.publish.new.self c.publish.new.tail made c.self.invariant c.in-Offering.is all).0

pub returns-in-Offering-clause-other : goal.returns-in-Offering-clause-other
returns-in-Offering-clause-other c = λ none.
    ap (λ (e : Engine). bursts_of e) (sym c.self.view_is) ∙ ap (λ p. bursts_at p c.self.inside.tx) c.in-Offering.is ∙ c.publish.ensures.other none

pub returns-in-Offering-clause-unchanged : goal.returns-in-Offering-clause-unchanged
returns-in-Offering-clause-unchanged c = λ none.
    let same = c.publish.ensures.unchanged none in
    (ap (λ s. engine_of (record (c.self.inside) { tx = s })) same.0 ∙ c.self.view_is, same.1)

pub invariant_of-self : goal.invariant_of-self
invariant_of-self c = pick c.publish.result refl
  where
    pick : (result : Option Publication) → c.publish.result ≡ result → IsWellFormed (record (c.self.inside) { tx = c.publish.new.self })
    pick None is = subst (λ s. IsWellFormed (record (c.self.inside) { tx = s })) (sym (c.publish.ensures.unchanged is).0) c.self.invariant
    pick (Some made) is =
        let all = subst (λ (o : Option Publication). IfSome o (λ m. sender.Publishes c.self.inside.tx c.publish.new.tail m c.publish.new.self)) is c.publish.ensures.steps in
        (sent c.self.inside c.publish.new.self c.publish.new.tail made c.self.invariant c.in-Offering.is all).1
