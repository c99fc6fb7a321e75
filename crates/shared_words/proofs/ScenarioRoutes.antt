-- The routes of a scenario's peers, and the key that is made of them.
use Rattle.std.proofs.Common.{◌≡◌, ℕ, ◌+◌, ◌<◌, ◌==◌, Bool, true, false, ◌&&◌, List, [], ◌∷◌, ◌++◌, length, take, get_or, set, refl, sym, ap, ◌∙◌, subst, arith}
use Rattle.std.specs.Prelude.{if◌then◌else◌, not, slice_index_or}
use Rattle.std.proofs.lemmas.Option.{slice_get_read}
use Rattle.std.proofs.lemmas.List.{length-set, get_or-set_same, get_or-set_other, take_more, get_or_append_left, get_or-append-add}
use Rattle.std.proofs.lemmas.Grind.{fold-append}
use mathlib.Core.Logic.{dite}
use native.Mathlib.Decide.{ℕ_discrete, dec_lt}
use Rattle.scenario_text.specs.declared.acts.Act.{Act}
use Rattle.scenario_text.specs.declared.acts.Act.TheVariants as act
use Rattle.scenario_text.specs.Scenario.{World, IsWorld, IsAllowed, is_hostile, is_peer}
use Rattle.scenario_text.proofs.ActNumbers.{peer_below, within}
use Rattle.doorbell_irq.specs.declared.route.Route.{Route}
use Rattle.doorbell_irq.specs.Events.{Event}
use Rattle.doorbell_irq.specs.Routes.{IsRoute}
use Rattle.lawful_history.specs.Device.{devices_of}
use Rattle.shared_words.specs.declared.run_setup.RunSetup.{RunSetup}
use Rattle.shared_words.specs.RunSetups.{IsMadeFor}
use Rattle.shared_words.specs.Interrupts.{flag_of}
use Rattle.shared_words.specs.PeerRoutes.{nowhere, route_to, AreRoutes, events_in, events_of, MaySet, AreRoutesOf}

-- The devices along the acts

pub events_none : events_of [] ≡ []
unfolding events_of
events_none = refl

pub events_snoc : (acts : List Act) (a : Act) → events_of (acts ++ a ∷ []) ≡ events_in a ++ events_of acts
unfolding events_of
events_snoc acts a = fold-append (λ (events : List Event) (x : Act). events_in x ++ events) [] acts (a ∷ [])

first_true : (a b : Bool) → (a && b) ≡ true → a ≡ true
first_true true b is = refl
first_true false b is = absurd (cc)

its_peer : (w : World) (p : ℕ) (b : Bool) → (if b then is_hostile w p else is_peer w p) ≡ true → is_peer w p ≡ true
its_peer w p true is = first_true (is_peer w p) (not (slice_index_or w.honest p false)) is
its_peer w p false is = is

may_set : (w : World) (before : List Act) (a : Act) → IsAllowed w before a → MaySet w.geometry.peers a
may_set w before (act.CfgWrite p offset width value) is = (peer_below p w.geometry.peers is.peer, within offset width is.range is.values.2.1 is.values.2.2.0 is.values.2.2.1)
may_set w before (act.MmioWrite p offset value) is = peer_below p w.geometry.peers (its_peer w p (offset == 16) is.peer)
may_set w before (act.MsixWrite p offset value) is = peer_below p w.geometry.peers is.peer
may_set w before a is = tt

pub sets_at : (w : World) (i : ℕ) (a : Act) → IsWorld w → i < length w.acts → a ≡ get_or w.acts i a → MaySet w.geometry.peers a
sets_at w i a is inside at = may_set w (take i w.acts) a (is.allowed i a (slice_get_read w.acts (length w.acts) i a refl inside at))

pub events_at : (acts : List Act) (i : ℕ) (a : Act) → i < length acts → a ≡ get_or acts i a → events_of (take (i + 1) acts) ≡ events_in a ++ events_of (take i acts)
events_at acts i a inside at = ap events_of (take_more acts i a inside ∙ ap (λ x. take i acts ++ x ∷ []) (sym at)) ∙ events_snoc (take i acts) a

-- The routes so far

pub routed_more : (w : World) (routes : List Route) (route : Route) (i p : ℕ) → length routes ≡ i → p < i + 1 → ((q : ℕ) → q < i → IsRoute (devices_of w) (events_of w.acts) q (route_to routes q)) → IsRoute (devices_of w) (events_of w.acts) i route →
    IsRoute (devices_of w) (events_of w.acts) p (route_to (routes ++ route ∷ []) p)
routed_more w routes route i p size lt all here = let P : ℕ → Route → Type 0 = IsRoute (devices_of w) (events_of w.acts) in dite (dec_lt p i)
    (λ low. subst (P p) (sym (get_or_append_left routes (route ∷ []) nowhere p (omega arith))) (all p low))
    (λ high. let e : p ≡ length routes + 0 = omega arith in let same : i ≡ p = omega arith in
    subst (P p) (sym (ap (λ k. get_or (routes ++ route ∷ []) k nowhere) e ∙ get_or-append-add routes (route ∷ []) 0 nowhere)) (subst (λ k. P k route) same here))

-- The flags of the key

-- the flags of the first peers of a list
abbrev pub AreFlags : (Route → Bool) → List Route → List Bool → ℕ → Type 0
AreFlags pick routes flags n = (length flags ≡ 8) × ((p : ℕ) → p < n → flag_of flags p ≡ pick (route_to routes p))

pub flags_more : (pick : Route → Bool) (routes : List Route) (flags : List Bool) (n k : ℕ) (flag : Bool) → k ≡ n → n < 8 → flag ≡ pick (route_to routes n) → AreFlags pick routes flags n → AreFlags pick routes (set flags k flag) (n + 1)
flags_more pick routes flags n k flag same few is was = (
  length-set flags k flag ∙ was.0,
  λ p lt. dite (ℕ_discrete p k) (λ e. ap (λ q. get_or (set flags k flag) q false) e ∙ (get_or-set_same flags k flag false (omega arith) ∙ (is ∙ ap (λ q. pick (route_to routes q)) (sym same ∙ sym e))))
      (λ ne. get_or-set_other flags k p flag false ne ∙ was.1 p (omega arith)),
)

-- The key that was made for a scenario is made with its routes.
pub routes_made : (w : World) (key : RunSetup) (routes : List Route) → IsMadeFor w key → AreRoutesOf w routes → AreRoutes key routes
routes_made w key routes made are = let peers : key.geometry.peers ≡ w.geometry.peers = ap (λ g. g.peers) made.geometry in record {
  count = are.count ∙ sym peers;
  one_shot = λ p lt. let here : p < w.geometry.peers = subst (λ n. p < n) peers lt in made.one_shot p here ∙ sym (are.each p here).one_shot;
  enabled = λ p lt. let here : p < w.geometry.peers = subst (λ n. p < n) peers lt in made.enabled p here ∙ sym (are.each p here).enabled;
}
