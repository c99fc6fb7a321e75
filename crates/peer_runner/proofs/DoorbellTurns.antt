-- What is done of a doorbell in one turn.
use Rattle.std.proofs.Common.{◌≡◌, ℕ, ◌<◌, nat_lt, Bool, true, false, ◌&&◌, List, length, refl, sym, ap, ◌∙◌, subst, arith}
use Rattle.std.specs.Prelude.{Option, Some, None, if◌then◌else◌}
use Rattle.std.specs.Int.{bit_at}
use Rattle.std.proofs.lemmas.Bool.{eqb-true}
use Rattle.std.proofs.lemmas.Bool.Decides.{nat_tests}
use Rattle.std.proofs.lemmas.List.{get_or_past}
use native.Mathlib.Decide.{dec_lt}
use mathlib.Core.Logic.{dite}
use Rattle.split_ring.specs.declared.steps.Access.{Access}
use Rattle.split_ring.specs.declared.steps.Access.TheVariants as access
use Rattle.doorbell_irq.specs.declared.route.Route.{Route}
use Rattle.doorbell_irq.specs.DeviceRules.{bit}
use Rattle.doorbell_irq.specs.Routes.{bit_for, bit_rung}
use Rattle.shared_words.specs.declared.run_setup.RunSetup.{RunSetup}
use Rattle.peer_runner.specs.declared.doorbell_paths.DoorbellPath.{DoorbellPath}
use Rattle.peer_runner.specs.declared.doorbell_paths.DoorbellPath.TheVariants.{Silent, Direct, Guarded}
use Rattle.shared_words.specs.DerivedStates.{CallAccess, MemoryOp}
use Rattle.shared_words.specs.Actions.{Action}
use Rattle.shared_words.specs.Interrupts.{IsOneShot}
use Rattle.shared_words.specs.PeerRoutes.{nowhere, route_to, AreRoutes}
use Rattle.peer_runner.specs.DoorbellPaths.{doorbell_path_by, doorbell_path_to, is_guarded, rung_by}
use Rattle.peer_runner.specs.Turns.{is_set}
use Rattle.shared_words.specs.PassView.{PassView}
use Rattle.peer_runner.specs.Runners.{MayRingBy, made}
use Rattle.shared_words.proofs.LinkOfSetup.{clash}

-- A way that touches a word is one to a peer that is there, by one of 64 bits.
abbrev pub Fits : List Route → (target : ℕ) → DoorbellPath → Type 0
Fits routes target Silent = Unit {0}
Fits routes target (Direct b) = (target < length routes) × (b < 64) × ((route_to routes target).one_shot ≡ false)
Fits routes target (Guarded b) = (target < length routes) × (b < 64) × ((route_to routes target).one_shot ≡ true)

chosen_some : (c : Bool) (n b : ℕ) → (if c then Some n else None) ≡ Some b → (c ≡ true) × (n ≡ b)
chosen_some true n b is = (refl, cc)
chosen_some false n b is = absurd (cc)

first_true : (a b : Bool) → (a && b) ≡ true → a ≡ true
first_true true b is = refl
first_true false b is = absurd (cc)

second_true : (a b : Bool) → (a && b) ≡ true → b ≡ true
second_true true b is = is
second_true false b is = absurd (cc)

below : (a b : ℕ) → nat_lt a b ≡ true → a < b
below a b is = grind (arith, nat_tests)

rung_fits : (route : Route) (vector b : ℕ) → bit_rung route vector ≡ Some b → (route.enabled ≡ true) × (b < 64)
rung_fits route vector b is = let own = bit_for route vector in let some = chosen_some (route.enabled && (nat_lt own 64 && bit route.vectors own)) own b is in (
  first_true route.enabled (nat_lt own 64 && bit route.vectors own) some.0,
  subst (λ n. n < 64) some.1 (below own 64 (first_true (nat_lt own 64) (bit route.vectors own) (second_true route.enabled (nat_lt own 64 && bit route.vectors own) some.0))),
)

there : (routes : List Route) (target : ℕ) → (route_to routes target).enabled ≡ true → target < length routes
there routes target on = dite (dec_lt target (length routes)) (λ lt. lt)
    (λ past. absurd (clash (ap (λ (r : Route). r.enabled) (sym (get_or_past routes target nowhere (omega arith))) ∙ on)))

by_way : (routes : List Route) (target : ℕ) (shot : Bool) (o : Option ℕ) (doorbell_path : DoorbellPath) → (route_to routes target).one_shot ≡ shot → ((b : ℕ) → o ≡ Some b → (target < length routes) × (b < 64)) → doorbell_path_by shot o ≡ doorbell_path → Fits routes target doorbell_path
by_way routes target shot None doorbell_path shot_is fits is = subst (Fits routes target) is tt
by_way routes target true (Some b) doorbell_path shot_is fits is = let f = fits b refl in subst (Fits routes target) is (f.0, f.1, shot_is)
by_way routes target false (Some b) doorbell_path shot_is fits is = let f = fits b refl in subst (Fits routes target) is (f.0, f.1, shot_is)

pub way_fits : (routes : List Route) (target vector : ℕ) (doorbell_path : DoorbellPath) → doorbell_path_to routes target vector ≡ doorbell_path → Fits routes target doorbell_path
unfolding doorbell_path_to
way_fits routes target vector doorbell_path is = let route = route_to routes target in by_way routes target route.one_shot (bit_rung route vector) doorbell_path refl
    (λ b some. let f = rung_fits route vector b some in (there routes target f.0, f.1)) is

pub way_of : (routes : List Route) (target vector : ℕ) (route : Route) (o : Option ℕ) → route ≡ route_to routes target → o ≡ bit_rung route vector → doorbell_path_by route.one_shot o ≡ doorbell_path_to routes target vector
unfolding doorbell_path_to
way_of routes target vector route o at is = λ i. doorbell_path_by (at i).one_shot ((is ∙ ap (λ (r : Route). bit_rung r vector) at) i)

-- Which peers are in one-shot mode.
pub never_one_shot : (key : RunSetup) (routes : List Route) (target : ℕ) → AreRoutes key routes → target < length routes → (route_to routes target).one_shot ≡ false → IsOneShot key target → ⊥
never_one_shot key routes target are lt off shot = let count = are.count in clash (sym (are.one_shot target (omega arith) ∙ off) ∙ shot)

pub is_one_shot_at : (key : RunSetup) (routes : List Route) (target : ℕ) → AreRoutes key routes → target < length routes → (route_to routes target).one_shot ≡ true → IsOneShot key target
is_one_shot_at key routes target are lt on = let count = are.count in are.one_shot target (omega arith) ∙ on

-- The ends of the match

pub not_so : (b : Bool) → (b ≡ true → ⊥) → b ≡ false
not_so true never = absurd (never refl)
not_so false never = refl

-- No ring is to come if the doorbell isn't guarded.
pub never_ringing : (routes : List Route) (target vector : ℕ) (doorbell_path : DoorbellPath) (ringing : Bool) (list : List (Action (MemoryOp CallAccess))) → doorbell_path_to routes target vector ≡ doorbell_path → is_guarded doorbell_path ≡ false → (ringing ≡ true → MayRingBy routes (access.Ring target vector) list) → ringing ≡ false
never_ringing routes target vector doorbell_path ringing list is off may = not_so ringing (λ on. clash (sym (ap is_guarded is ∙ off) ∙ (may on).0))

-- Nor with an access that is no doorbell.
pub no_ring : (routes : List Route) (a : Access) (ringing : Bool) (list : List (Action (MemoryOp CallAccess))) → (MayRingBy routes a list → ⊥) → (ringing ≡ true → MayRingBy routes a list) → ringing ≡ false
no_ring routes a ringing list none may = not_so ringing (λ on. none (may on))

pub rung_made : (routes : List Route) (target vector : ℕ) (doorbell_path : DoorbellPath) (old : PassView) → doorbell_path_to routes target vector ≡ doorbell_path → made old (rung_by doorbell_path target) ≡ made old (rung_by (doorbell_path_to routes target vector) target)
rung_made routes target vector doorbell_path old is = ap (λ (w : DoorbellPath). made old (rung_by w target)) (sym is)

pub set_found : (found : ℕ) → is_set found ≡ true → bit_at found 0 ≡ 1
set_found found is = eqb-true (bit_at found 0) 1 is
