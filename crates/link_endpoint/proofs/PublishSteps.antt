-- The steps of an offer up to its index, which the sender completes by one call, are steps of the
-- endpoint.
use Rattle.std.proofs.Common.{◌≡◌, ℕ, false, List, [], ◌∷◌, length, refl, ap, sym, ◌∙◌, subst}
use Rattle.split_ring.specs.declared.steps.Note.TheVariants as note
use Rattle.call_grammar.specs.Ends.{End}
use Rattle.call_grammar.specs.Calls.{EndConfig}
use Rattle.call_grammar.specs.Places as places
use Rattle.call_grammar.specs.Orders.{word_kind}
use Rattle.tx_engine.specs.declared.ahead.Publication.{Publication}
use Rattle.tx_engine.specs.Sender.{Sender}
use Rattle.tx_engine.specs.Ahead.{words_of}
use Rattle.tx_engine.specs.Publishing as sender
use Rattle.link_endpoint.specs.declared.place.Place.TheVariants.{Offering}
use Rattle.link_endpoint.specs.declared.endpoint.Endpoint.TheInside.{Inside}
use Rattle.link_endpoint.specs.Engine.{Engine, bursts_at}
use Rattle.link_endpoint.specs.Representation.{engine_of, IsWellFormed}
use Rattle.link_endpoint.specs.Refinement.{RefinesAt}
use Rattle.link_endpoint.specs.Orders.{order_of}
use Rattle.link_endpoint.specs.Publishing.{Publishes}
use Rattle.link_endpoint.proofs.EndByPlace.{at_place}
use Rattle.link_endpoint.proofs.OfferAndPollSteps.{offer_at}
use Rattle.link_endpoint.proofs.AccessOrders.{offer_order}
use Rattle.link_endpoint.proofs.EngineAfterStep.{KeepsNumbers, StandsFor, seen_sent, kept_sent}
use Rattle.link_endpoint.proofs.BurstsOfSteps.{offers_on, offers_noted, stands_on, keeps_one, keeps_all, some_values}

pub publishes : (old : Engine) (tail : List ℕ) (made : Publication) (next : Sender) (config : EndConfig) (end : End) (place : places.Place) → old.place ≡ Offering →
    RefinesAt old config end place → sender.Publishes old.sender tail made next →
    Publishes old tail made (record old { sender = next }) × StandsFor (record old { sender = next }) config
publishes old tail made next config end place offers refines all =
    let written : Engine = record old { sender = all.written } in
    let writes = λ (values : List ℕ) (count : length values ≡ words_of made.bursts). offers_on old values all.written config end place offers (all.writes values count) refines in
    let some = some_values (words_of made.bursts) in
    let first = stands_on old written some.0 [] config end place (writes some.0 some.1) refines in
    let accepts = λ (value : ℕ). offers_noted written value (note.Accept ∷ []) next config first.end first.place offers (all.accepts value) first.refines refl in (
      record {
        written = written;
        bursts = ap (λ p. bursts_at p old.sender) offers ∙ all.bursts;
        words = λ w e p at. all.words w e p (at_place Offering old w e p offers at).1;
        writes = writes;
        index = λ w e p at.
            let here = at_place Offering written w e p offers at in
            let index = all.index w e p here.1 in
            (index.0, sym (offer_order p (offer_at all.written w e p here.1 here.0)) ∙ ap (λ b. order_of b (word_kind p)) index.2 ∙ ap (λ k. order_of false k) index.1);
        accepts = accepts;
      },
      stands_on written (record old { sender = next }) (0 ∷ []) (note.Accept ∷ []) config first.end first.place (accepts 0) first.refines,
    )

-- The sender's parameters are unchanged.
pub publishing_keeps : (old next : Sender) (tail : List ℕ) (made : Publication) → sender.Publishes old tail made next → KeepsNumbers old next
publishing_keeps old next tail made all =
    let some = some_values (words_of made.bursts) in
    let one = keeps_all old all.written some.0 [] (all.writes some.0 some.1) in
    let more = keeps_one all.written next 0 (note.Accept ∷ []) (all.accepts 0) in
    record { sizes = more.sizes ∙ one.sizes; own = more.own ∙ one.own; other_start = more.other_start ∙ one.other_start; target = more.target ∙ one.target; vector = more.vector ∙ one.vector }

-- The endpoint after the sender published a frame.
pub sent : (i : Inside) (next : Sender) (tail : List ℕ) (made : Publication) → IsWellFormed i → i.place ≡ Offering → sender.Publishes i.tx tail made next →
    Publishes (engine_of i) tail made (engine_of (record i { tx = next })) × IsWellFormed (record i { tx = next })
sent i next tail made kept offers all =
    let keeps = publishing_keeps i.tx next tail made all in
    let seen = seen_sent i next i.refused i.place keeps in
    let both = publishes (engine_of i) tail made next (engine_of i).config kept.end kept.at offers kept.refines all in
    (subst (λ e. Publishes (engine_of i) tail made e) seen both.0, kept_sent i i.refused i.place next kept keeps kept.mark kept.left (subst (λ e. StandsFor e (engine_of i).config) seen both.1))
