use Rattle.std.proofs.Common.{subst, ap, sym, ◌∙◌}
use Rattle.tx_engine.specs.Refinement as tx
use Rattle.rx_engine.specs.Refinement as rx
use Rattle.link_endpoint.specs.Refinement.{RefinesAt}
use Rattle.link_endpoint.specs.Representation.{engine_of}
use Rattle.link_endpoint.specs.Orders.{order_of}
use Rattle.link_endpoint.specs.declared.place.Place.TheVariants.{Offering, Polling}
use Rattle.link_endpoint.proofs.EndByPlace.{at_place}
use Rattle.link_endpoint.proofs.OfferAndPollSteps.{offer_at, poll_at}
use Rattle.link_endpoint.proofs.AccessOrders.{offer_order, poll_order}
use Rattle.link_endpoint.proofs.endpoint.Endpoint.order.Goals as goal

pub returns-in-Offering : goal.returns-in-Offering
returns-in-Offering c = λ config end place refines.
    let inside = subst (λ e. RefinesAt e config end place) (sym c.self.view_is) refines in
    let at = at_place Offering (engine_of c.self.inside) config end place c.in-Offering.is inside in
    c.order_of.ensures ∙ ap (λ b. order_of b c.word_kind.result) (c.rings.ensures config end place at.1) ∙ ap (order_of (tx.rings place)) (c.word_kind.ensures config end place at.1) ∙ offer_order place (offer_at c.self.inside.tx config end place at.1 at.0)

pub returns-in-Polling : goal.returns-in-Polling
returns-in-Polling c = λ config end place refines.
    let inside = subst (λ e. RefinesAt e config end place) (sym c.self.view_is) refines in
    let at = at_place Polling (engine_of c.self.inside) config end place c.in-Polling.is inside in
    c.order_of-in-Polling.ensures ∙ ap (λ b. order_of b c.word_kind-in-Polling.result) (c.rings-in-Polling.ensures config end place at.2) ∙ ap (order_of (rx.rings place)) (c.word_kind-in-Polling.ensures config end place at.2) ∙ poll_order place (poll_at c.self.inside.rx config end place at.2 at.0)
