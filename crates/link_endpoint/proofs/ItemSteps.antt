-- The steps of a poll that the receiver completes by one call are steps of the endpoint.
use Rattle.std.proofs.Common.{◌≡◌, ℕ, Bool, true, false, Option, Some, None, List, [], ◌∷◌, length, refl, ap, sym, ◌∙◌, IfSome}
use Rattle.std.specs.List.{flat_map}
use Rattle.split_ring.specs.declared.steps.Note.TheVariants as note
use Rattle.split_ring.specs.declared.steps.WordKind.TheVariants.{IndexWrite}
use Rattle.call_grammar.specs.Ends.{End}
use Rattle.call_grammar.specs.Calls.{EndConfig}
use Rattle.call_grammar.specs.Places as places
use Rattle.call_grammar.specs.Orders.{word_kind}
use Rattle.call_grammar.specs.Words.{word_bytes}
use Rattle.rx_engine.specs.declared.ahead.FrameReturn.{FrameReturn}
use Rattle.rx_engine.specs.Receiver.{Receiver}
use Rattle.rx_engine.specs.Refinement as rx
use Rattle.rx_engine.specs.Items as receiver
use Rattle.link_endpoint.specs.declared.place.Place.TheVariants.{Polling}
use Rattle.link_endpoint.specs.Engine.{Engine}
use Rattle.link_endpoint.specs.Refinement.{RefinesAt}
use Rattle.link_endpoint.specs.Orders.{order_at, order_of, release}
use Rattle.link_endpoint.specs.Items.{ReadsNext, RefusesNext, ReadsAndReturns}
use Rattle.link_endpoint.proofs.EndByPlace.{at_place}
use Rattle.link_endpoint.proofs.OfferAndPollSteps.{poll_at}
use Rattle.link_endpoint.proofs.AccessOrders.{poll_order}
use Rattle.link_endpoint.proofs.EngineAfterStep.{StandsFor}
use Rattle.link_endpoint.proofs.BurstsOfSteps.{polls_on, stands_on}

-- What holds of a result follows from what holds of it.
pub if_some : {A : Type 0} (result : Option A) (Holds Follows : A → Type 0) → ((value : A) → Holds value → Follows value) → IfSome result Holds → IfSome result Follows
if_some None Holds Follows follows holds = tt
if_some (Some value) Holds Follows follows holds = follows value holds

-- The receiver of an endpoint in a poll.
polled : (e : Engine) (config : EndConfig) (end : End) (place : places.Place) → e.place ≡ Polling → RefinesAt e config end place → rx.RefinesAt e.receiver config end place
polled e config end place polls refines = (at_place Polling e config end place polls refines).2

ordered : (e : Engine) (config : EndConfig) (end : End) (place : places.Place) → e.place ≡ Polling → RefinesAt e config end place → order_at place ≡ order_of (rx.rings place) (word_kind place)
ordered e config end place polls refines = let at = at_place Polling e config end place polls refines in sym (poll_order place (poll_at e.receiver config end place at.2 at.0))

pub reads_next : (e : Engine) (word : ℕ) → e.place ≡ Polling → receiver.ReadsNext e.receiver word → ReadsNext e word
reads_next e word polls next = λ config end place refines.
    let reads = next config end place (polled e config end place polls refines) in
    (reads.0, ordered e config end place polls refines ∙ ap (λ b. order_of b (word_kind place)) reads.2 ∙ ap (λ k. order_of false k) reads.1)

pub refuses_next : (e : Engine) (value : ℕ) → e.place ≡ Polling → receiver.RefusesNext e.receiver value → RefusesNext e value
refuses_next e value polls refused = λ config end place refines. refused config end place (polled e config end place polls refines)

-- A whole frame is read and returned.
pub reads_and_returns : (old : Engine) (words : List ℕ) (made : FrameReturn) (next : Receiver) (config : EndConfig) (end : End) (place : places.Place) → old.place ≡ Polling →
    ((values : List ℕ) × (words ≡ flat_map word_bytes values)) → RefinesAt old config end place → receiver.ReadsAndReturns old.receiver words made next →
    ReadsAndReturns old words made (record old { receiver = next }) × StandsFor (record old { receiver = next }) config
reads_and_returns old words made next config end place polls spelled refines all =
    let read : Engine = record old { receiver = all.read } in
    let given : Engine = record old { receiver = all.given } in
    let reads = λ (values : List ℕ) (words_are : words ≡ flat_map word_bytes values). polls_on old values (note.Deliver ∷ []) all.read config end place polls (all.reads values words_are) refines refl in
    let first = stands_on old read spelled.0 (note.Deliver ∷ []) config end place (reads spelled.0 spelled.1) refines in
    let gives = λ (values : List ℕ) (count : length values ≡ 2). polls_on read values [] all.given config first.end first.place polls (all.gives values count) first.refines refl in
    let second = stands_on read given (0 ∷ 0 ∷ []) [] config first.end first.place (gives (0 ∷ 0 ∷ []) refl) first.refines in
    let returns = λ (value : ℕ). polls_on given (value ∷ []) (note.Return ∷ []) next config second.end second.place polls (all.returns value) second.refines refl in (
      record {
        read = read;
        given = given;
        reads = reads;
        frame = all.frame;
        element = λ w e p at. all.element w e p (polled read w e p polls at);
        gives = gives;
        index = λ w e p at.
            let index = all.index w e p (polled given w e p polls at) in
            (index.0, ordered given w e p polls at ∙ ap (order_of (rx.rings p)) index.1 ∙ released (rx.rings p));
        returns = returns;
      },
      stands_on given (record old { receiver = next }) (0 ∷ []) (note.Return ∷ []) config second.end second.place (returns 0) second.refines,
    )
  where
    released : (rings : Bool) → order_of rings IndexWrite ≡ release
    released true = refl
    released false = refl
