use Rattle.std.proofs.Common.{◌≡◌, Option, Some, None, [], ◌∷◌, refl, ap, sym, ◌∙◌, subst, IfSome}
use Rattle.rx_engine.specs.declared.ahead.NextRead.{NextRead}
use Rattle.rx_engine.specs.Refinement as rx
use Rattle.link_endpoint.specs.Engine.{reads_ahead_at}
use Rattle.link_endpoint.specs.Items.{is_field_at, is_field}
use Rattle.link_endpoint.specs.Representation.{engine_of, IsWellFormed}
use Rattle.link_endpoint.specs.Items.{RefusesNext}
use Rattle.link_endpoint.proofs.BurstsOfSteps.{polled_on, kept_polled}
use Rattle.link_endpoint.proofs.ItemSteps.{if_some, reads_next, refuses_next}
use Rattle.link_endpoint.proofs.endpoint.Endpoint.took_field.Goals as goal

pub returns-in-Polling-clause-step : goal.returns-in-Polling-clause-step
returns-in-Polling-clause-step c =
    if_some c.took_field.result _ _ (λ next step. rw (← c.self.view_is) (polled_on c.self.inside c.took_field.new.self (c.args.value ∷ []) [] c.self.invariant c.in-Polling.is step refl)) c.took_field.ensures.step

pub returns-in-Polling-clause-access : goal.returns-in-Polling-clause-access
returns-in-Polling-clause-access c =
    if_some c.took_field.result _ _ (λ next reads. reads_next (engine_of (record (c.self.inside) { rx = c.took_field.new.self })) next.word c.in-Polling.is reads) c.took_field.ensures.access

pub returns-in-Polling-clause-count : goal.returns-in-Polling-clause-count
returns-in-Polling-clause-count c =
    if_some c.took_field.result _ _ (λ next count. count ∙ ap (λ p. reads_ahead_at p c.took_field.new.self) (sym c.in-Polling.is)) c.took_field.ensures.count

pub returns-in-Polling-clause-refused : goal.returns-in-Polling-clause-refused
returns-in-Polling-clause-refused c = λ none field.
    let i = c.self.inside in
    let here = ap (λ p. is_field_at p i.rx) (sym c.in-Polling.is) ∙ ap is_field c.self.view_is ∙ field in
    subst (λ e. RefusesNext e c.args.value) c.self.view_is (refuses_next (engine_of i) c.args.value c.in-Polling.is (c.took_field.ensures.refused none here))

pub returns-in-Polling-clause-unchanged : goal.returns-in-Polling-clause-unchanged
returns-in-Polling-clause-unchanged c = λ none. ap (λ r. engine_of (record (c.self.inside) { rx = r })) (c.took_field.ensures.unchanged none) ∙ c.self.view_is

pub invariant_of-self : goal.invariant_of-self
invariant_of-self c = pick c.took_field.result refl
  where
    pick : (result : Option NextRead) → c.took_field.result ≡ result → IsWellFormed (record (c.self.inside) { rx = c.took_field.new.self })
    pick None is = subst (λ r. IsWellFormed (record (c.self.inside) { rx = r })) (sym (c.took_field.ensures.unchanged is)) c.self.invariant
    pick (Some next) is =
        let i = c.self.inside in
        let step = subst (λ (o : Option NextRead). IfSome o (λ read. rx.StaysOpen i.rx c.args.value [] c.took_field.new.self)) is c.took_field.ensures.step in
        kept_polled i c.took_field.new.self (c.args.value ∷ []) [] c.self.invariant c.in-Polling.is step refl c.took_field.ensures.kept
