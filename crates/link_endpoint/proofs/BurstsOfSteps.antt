-- Bursts of steps.
use Rattle.std.proofs.Common.{◌≡◌, ℕ, zero, suc, ◌+◌, ◌-◌, ◌*◌, ◌<◌, ◌≤◌, ◌⊎◌, inl, inr, true, false, None, List, [], ◌∷◌, length, replicate, refl, subst, ap, sym, ◌∙◌, arith}
use Rattle.std.specs.Prelude.{is_some}
use Rattle.std.proofs.lemmas.Grind.{common_steps}
use Rattle.std.proofs.lemmas.Bool.{cases_lt}
use Rattle.std.proofs.lemmas.List.{length-replicate}
use Rattle.split_ring.specs.declared.steps.Access.{Access}
use Rattle.split_ring.specs.declared.steps.Access.TheVariants as access
use Rattle.split_ring.specs.declared.steps.Note.{Note}
use Rattle.split_ring.specs.declared.steps.Note.TheVariants as note
use Rattle.call_grammar.specs.Ends.{End}
use Rattle.call_grammar.specs.Calls.{EndConfig}
use Rattle.call_grammar.specs.Places as places
use Rattle.call_grammar.specs.Bursts.{StepsThrough, WritesBurst, place_after}
use Rattle.tx_engine.specs.Sender.{Sender}
use Rattle.tx_engine.specs.Refinement as tx
use Rattle.tx_engine.proofs.FrameBursts.{open_is}
use Rattle.tx_engine.proofs.Padding.{dropped_zeros}
use Rattle.rx_engine.specs.Receiver.{Receiver}
use Rattle.rx_engine.specs.Refinement as rx
use Rattle.rx_engine.proofs.FrameBursts.{busy_is}
use Rattle.link_endpoint.specs.declared.place.Place.{Place}
use Rattle.link_endpoint.specs.declared.place.Place.TheVariants.{Clearing, WritingState, Offering, Polling}
use Rattle.link_endpoint.specs.declared.endpoint.Endpoint.TheInside.{Inside}
use Rattle.rx_engine.specs.Receiver as receiver
use Rattle.link_endpoint.specs.Engine.{Engine, is_refusing, is_reading_state, is_refusing_at, is_reading_state_at, refused_after}
use Rattle.link_endpoint.specs.Representation.{engine_of, IsWellFormed}
use Rattle.link_endpoint.specs.Refinement.{RefinesAt}
use Rattle.link_endpoint.specs.Bursts.{IsTaken}
use Rattle.link_endpoint.specs.Refusal.{IsAfterRefusal, StaysRefused}
use Rattle.link_endpoint.proofs.EndByPlace.{at_place}
use Rattle.link_endpoint.proofs.ReceiverSteps as receiving
use Rattle.link_endpoint.proofs.SenderSteps as sending
use Rattle.link_endpoint.proofs.EngineAfterStep.{KeepsNumbers, StandsFor, seen_sent, kept_with, kept_received, kept_sent}

-- These notes refuse nothing.
pub none_refused : (notes : List Note) → (notes ≡ []) ⊎ (notes ≡ note.Deliver ∷ []) → refused_after notes None ≡ None
none_refused notes (inl none) = ap (λ n. refused_after n None) none
none_refused notes (inr one) = ap (λ n. refused_after n None) one

-- A step that refuses nothing, of an end that neither leaves the link nor reads the other's State.
away_on : (old new : Engine) (value : ℕ) (notes : List Note) → is_refusing old ≡ false → is_reading_state old ≡ false → refused_after notes None ≡ None → new.refused ≡ old.refused → StaysRefused old value notes new
away_on old new value notes stays works none same = record {
  refuses = λ other is. let f = ap is_some (sym none ∙ is) in absurd (cc);
  leaves = λ is. absurd (cc);
  keeps = λ other is. same ∙ is;
  stays = λ is. absurd (cc);
}

-- The steps of the receiver are steps of the endpoint.
polls_one : (old : Engine) (value : ℕ) (notes : List Note) (next : Receiver) (config : EndConfig) (end : End) (place : places.Place) → old.place ≡ Polling →
    rx.StaysOpen old.receiver value notes next → RefinesAt old config end place → refused_after notes None ≡ None → IsTaken old value notes (record old { receiver = next })
polls_one old value notes next config end place polls step refines none = record {
  takes = receiving.takes_on old value notes next true config end place polls step.0 refines none (λ w e p at. sym step.1 ∙ busy_is next w e p at) refl;
  away = away_on old _ value notes (ap is_refusing_at polls) (ap is_reading_state_at polls) none refl;
}

pub polls_on : (old : Engine) (values : List ℕ) (notes : List Note) (next : Receiver) (config : EndConfig) (end : End) (place : places.Place) → old.place ≡ Polling →
    StepsThrough rx.StaysOpen old.receiver values notes next → RefinesAt old config end place → refused_after notes None ≡ None → StepsThrough IsTaken old values notes (record old { receiver = next })
polls_on old [] notes next config end place polls each refines none = (each.0, ap (λ r. record old { receiver = r }) each.1)
polls_on old (value ∷ []) notes next config end place polls each refines none = polls_one old value notes next config end place polls each refines none
polls_on old (value ∷ other ∷ values) notes next config end place polls (between, first, rest) refines none =
    let one = polls_one old value [] between config end place polls first refines refl in
    (record old { receiver = between }, one, polls_on (record old { receiver = between }) (other ∷ values) notes next config _ _ polls rest (one.takes.refines config end place refines) none)

-- The steps of the sender are steps of the endpoint.
pub offers_noted : (old : Engine) (value : ℕ) (notes : List Note) (next : Sender) (config : EndConfig) (end : End) (place : places.Place) → old.place ≡ Offering →
    tx.StaysOpen old.sender value notes next → RefinesAt old config end place → refused_after notes None ≡ None → IsTaken old value notes (record old { sender = next })
offers_noted old value notes next config end place offers step refines none = record {
  takes = sending.takes_on old value notes next true config end place offers step.takes refines none step.sender (λ w e p at. sym step.opened ∙ open_is next w e p at) refl;
  away = away_on old _ value notes (ap is_refusing_at offers) (ap is_reading_state_at offers) none refl;
}

offers_one : (old : Engine) (value : ℕ) (next : Sender) (config : EndConfig) (end : End) (place : places.Place) → old.place ≡ Offering →
    tx.StaysOpen old.sender value [] next → RefinesAt old config end place → IsTaken old value [] (record old { sender = next })
offers_one old value next config end place offers step refines = offers_noted old value [] next config end place offers step refines refl

pub offers_on : (old : Engine) (values : List ℕ) (next : Sender) (config : EndConfig) (end : End) (place : places.Place) → old.place ≡ Offering →
    StepsThrough tx.StaysOpen old.sender values [] next → RefinesAt old config end place → StepsThrough IsTaken old values [] (record old { sender = next })
offers_on old [] next config end place offers each refines = (refl, ap (λ s. record old { sender = s }) each.1)
offers_on old (value ∷ []) next config end place offers each refines = offers_one old value next config end place offers each refines
offers_on old (value ∷ other ∷ values) next config end place offers (between, first, rest) refines =
    let one = offers_one old value between config end place offers first refines in
    (record old { sender = between }, one, offers_on (record old { sender = between }) (other ∷ values) next config _ _ offers rest (one.takes.refines config end place refines))

-- The sender's parameters are unchanged.
pub keeps_one : (old new : Sender) (value : ℕ) (notes : List Note) → tx.StaysOpen old value notes new → KeepsNumbers old new
keeps_one old new value notes takes = let kept = takes.takes.kept in
    record { sizes = ap (λ s. s.sizes) kept; own = ap (λ s. s.own) kept; other_start = ap (λ s. s.other_start) kept; target = ap (λ s. s.target) kept; vector = ap (λ s. s.vector) kept }

pub keeps_all : (old new : Sender) (values : List ℕ) (notes : List Note) → StepsThrough tx.StaysOpen old values notes new → KeepsNumbers old new
keeps_all old new [] notes each = subst (KeepsNumbers old) (sym each.1) (record { sizes = refl; own = refl; other_start = refl; target = refl; vector = refl })
keeps_all old new (value ∷ []) notes each = keeps_one old new value notes each
keeps_all old new (value ∷ other ∷ values) notes (between, first, rest) =
    let one = keeps_one old between value [] first in
    let more = keeps_all between new (other ∷ values) notes rest in
    record { sizes = more.sizes ∙ one.sizes; own = more.own ∙ one.own; other_start = more.other_start ∙ one.other_start; target = more.target ∙ one.target; vector = more.vector ∙ one.vector }

-- The endpoint refines an end after these steps.
pub stands_on : (old new : Engine) (values : List ℕ) (notes : List Note) (config : EndConfig) (end : End) (place : places.Place) → StepsThrough IsTaken old values notes new → RefinesAt old config end place → StandsFor new config
stands_on old new [] notes config end place each refines = record { end = end; place = place; refines = subst (λ e. RefinesAt e config end place) (sym each.1) refines }
stands_on old new (value ∷ []) notes config end place each refines = record { end = _; place = _; refines = each.takes.refines config end place refines }
stands_on old new (value ∷ other ∷ values) notes config end place (between, first, rest) refines = stands_on between new (other ∷ values) notes config _ _ rest (first.takes.refines config end place refines)

-- The receiver's steps in a poll are steps of the endpoint, which stays well formed.
pub polled_on : (i : Inside) (next : Receiver) (values : List ℕ) (notes : List Note) → IsWellFormed i → i.place ≡ Polling → StepsThrough rx.StaysOpen i.rx values notes next → refused_after notes None ≡ None →
    StepsThrough IsTaken (engine_of i) values notes (engine_of (record i { rx = next }))
polled_on i next values notes kept polls each none = polls_on (engine_of i) values notes next (engine_of i).config kept.end kept.at polls each kept.refines none

pub kept_polled : (i : Inside) (next : Receiver) (values : List ℕ) (notes : List Note) → IsWellFormed i → i.place ≡ Polling → StepsThrough rx.StaysOpen i.rx values notes next → refused_after notes None ≡ None → receiver.KeepsNumbers i.rx next →
    IsWellFormed (record i { rx = next })
kept_polled i next values notes kept polls each none keeps =
    let later = stands_on (engine_of i) _ values notes (engine_of i).config kept.end kept.at (polled_on i next values notes kept polls each none) kept.refines in
    kept_received i i.refused i.place next kept keeps kept.mark kept.left later

-- The sender's steps in an offer are steps of the endpoint, which stays well formed.
pub sent_on : (i : Inside) (next : Sender) (values : List ℕ) → IsWellFormed i → i.place ≡ Offering → StepsThrough tx.StaysOpen i.tx values [] next → StepsThrough IsTaken (engine_of i) values [] (engine_of (record i { tx = next }))
sent_on i next values kept offers each =
    subst (λ e. StepsThrough IsTaken (engine_of i) values [] e) (seen_sent i next i.refused i.place (keeps_all i.tx next values [] each)) (offers_on (engine_of i) values next (engine_of i).config kept.end kept.at offers each kept.refines)

pub kept_offered : (i : Inside) (next : Sender) (values : List ℕ) → IsWellFormed i → i.place ≡ Offering → StepsThrough tx.StaysOpen i.tx values [] next → IsWellFormed (record i { tx = next })
kept_offered i next values kept offers each =
    let later = stands_on (engine_of i) _ values [] (engine_of i).config kept.end kept.at (sent_on i next values kept offers each) kept.refines in
    kept_sent i i.refused i.place next kept (keeps_all i.tx next values [] each) kept.mark kept.left later

-- Writes of 0 to own words.

left_clear : (old : Engine) (at state : ℕ) → old.place ≡ Clearing at state → (is_refusing old ≡ false) × (is_reading_state old ≡ false)
left_clear old at state clears = (ap is_refusing_at clears, ap is_reading_state_at clears)

clears_one : (old : Engine) (at state value : ℕ) → old.place ≡ Clearing at state → at + 1 < old.config.own + old.config.words → IsTaken old value [] (record old { place = Clearing (at + 1) state })
clears_one old at state value clears within = record {
  takes = grind (arith, common_steps);
  away = let calm = left_clear old at state clears in away_on old _ value [] calm.0 calm.1 refl refl;
}

clears_last : (old : Engine) (at state value : ℕ) → old.place ≡ Clearing at state → at + 1 ≡ old.config.own + old.config.words → IsTaken old value [] (record old { place = WritingState state })
clears_last old at state value clears last = record {
  takes = grind (arith, common_steps);
  away = let calm = left_clear old at state clears in away_on old _ value [] calm.0 calm.1 refl refl;
}

pub clears_on : (old new : Engine) (at state : ℕ) (values : List ℕ) → old.place ≡ Clearing at state → 0 < length values → at + length values < old.config.own + old.config.words →
    new ≡ record old { place = Clearing (at + length values) state } → StepsThrough IsTaken old values [] new
clears_on old new at state [] clears some within new_is = absurd (omega (arith, some))
clears_on old new at state (value ∷ []) clears some within new_is =
    let one : new ≡ record old { place = Clearing (at + 1) state } = new_is in
    subst (λ e. IsTaken old value [] e) (sym one) (clears_one old at state value clears within)
clears_on old new at state (value ∷ other ∷ values) clears some within new_is =
    let between : Engine = record old { place = Clearing (at + 1) state } in
    let count : at + length (value ∷ other ∷ values) ≡ at + 1 + length (other ∷ values) = omega arith in
    (between, clears_one old at state value clears (omega (arith, within)), clears_on between new (at + 1) state (other ∷ values) refl (omega arith) (omega (arith, within)) (new_is ∙ ap (λ n. record old { place = Clearing n state }) count))

pub clears_all : (old new : Engine) (at state : ℕ) (values : List ℕ) → old.place ≡ Clearing at state → 0 < length values → at + length values ≡ old.config.own + old.config.words →
    new ≡ record old { place = WritingState state } → StepsThrough IsTaken old values [] new
clears_all old new at state [] clears some within new_is = absurd (omega (arith, some))
clears_all old new at state (value ∷ []) clears some within new_is = subst (λ e. IsTaken old value [] e) (sym new_is) (clears_last old at state value clears within)
clears_all old new at state (value ∷ other ∷ values) clears some within new_is =
    let between : Engine = record old { place = Clearing (at + 1) state } in
    (between, clears_one old at state value clears (omega (arith, within)), clears_all between new (at + 1) state (other ∷ values) refl (omega arith) (omega (arith, within)) new_is)

clear_writes : (config : EndConfig) (at more state : ℕ) (values : List ℕ) → length values ≤ more → places.access_at config (place_after config (places.Clearing at more state) values) ≡ access.Write (at + length values) 0
clear_writes config at more state [] few = ap (λ n. access.Write n 0) (omega arith)
clear_writes config at zero state (value ∷ values) few = absurd (omega (arith, few))
clear_writes config at (suc more) state (value ∷ values) few = clear_writes config (at + 1) more state values (omega (arith, few)) ∙ ap (λ n. access.Write n 0) (omega arith)

abbrev word_of_write : Access → ℕ
word_of_write (access.Write word value) = word
word_of_write _ = 0

pub zeros_on : (old : Engine) (config : EndConfig) (end : End) (place : places.Place) (at state word value count : ℕ) → old.place ≡ Clearing at state → count ≤ 4 * (old.config.own + old.config.words - at) →
    RefinesAt old config end place → places.access_at config place ≡ access.Write word value → WritesBurst config place word (replicate count 0)
zeros_on old config end place at state word value count clears within refines first values few =
    let is = at_place (Clearing at state) old config end place clears refines in
    let word_is : at ≡ word = ap word_of_write (sym (ap (places.access_at config) is.0) ∙ first) in
    let none : ℕ = 0 in
    let sized : length (replicate count none) ≡ count = length-replicate count none in
    let same : config.own + config.words ≡ old.config.own + old.config.words = ap (λ (w : EndConfig). w.own + w.words) refines.made in
    ap (λ p. places.access_at config (place_after config p values)) is.0 ∙ clear_writes config at _ state values (omega (arith, few, sized, within, same))
    ∙ ap (λ n. access.Write (n + length values) 0) word_is ∙ ap (access.Write (word + length values)) (sym (dropped_zeros 4 (4 * length values) count))

-- Writes of 0 to `count` of the own words that are left, or to all of them.
pub clears_some : (old : Engine) (at state count : ℕ) (place : Place) (values : List ℕ) → old.place ≡ Clearing at state → 0 < count → at + count ≤ old.config.own + old.config.words → length values ≡ count →
    (at + count < old.config.own + old.config.words → place ≡ Clearing (at + count) state) → (at + count ≡ old.config.own + old.config.words → place ≡ WritingState state) → StepsThrough IsTaken old values [] (record old { place = place })
clears_some old at state count place values clears some within count_is word behind =
    elim (cases_lt (at + count) (old.config.own + old.config.words)) [
      | inl before ↦ clears_on old _ at state values clears (omega (arith, some, count_is)) (omega (arith, before, count_is)) (ap (λ p. record old { place = p }) (word before ∙ ap (λ n. Clearing (at + n) state) (sym count_is)))
      | inr after ↦ clears_all old _ at state values clears (omega (arith, some, count_is)) (omega (arith, within, after, count_is)) (ap (λ p. record old { place = p }) (behind (omega (arith, within, after))))
    ]

pub kept_placed : (i : Inside) (place : Place) (at then : ℕ) (values : List ℕ) (notes : List Note) → IsWellFormed i → i.place ≡ Clearing at then → StepsThrough IsTaken (engine_of i) values notes (engine_of (record i { place = place })) → IsWellFormed (record i { place = place })
kept_placed i place at then values notes kept clears each =
    kept_with i i.handshake i.refused place i.rx kept kept.receiver (λ other. kept.mark (λ refuses. grind (arith, common_steps))) (λ is. absurd (subst (λ p. IsAfterRefusal p i.handshake.phase) clears (kept.left is)))
    (stands_on (engine_of i) (engine_of (record i { place = place })) values notes (engine_of i).config kept.end kept.at each kept.refines)

-- A list of `count` values exists.
pub some_values : (count : ℕ) → (values : List ℕ) × (length values ≡ count)
some_values count = let none : ℕ = 0 in (replicate count none, length-replicate count none)
