-- The calls of an endpoint, step by step.
use Rattle.std.proofs.Common.{◌≡◌, ℕ, true, false, List, [], ◌∷◌, refl, sym, ap, ◌∙◌, subst, arith}
use Rattle.std.proofs.lemmas.Grind.{common_steps}
use Rattle.split_ring.specs.declared.steps.Access.{Access}
use Rattle.call_grammar.specs.Steps.{Mark, Step, value_given}
use Rattle.call_grammar.specs.Trees.{CallTree, Goes, GoesAlong}
use Rattle.call_grammar.specs.Ends.{End, end_after}
use Rattle.call_grammar.specs.Calls.{EndConfig}
use Rattle.call_grammar.specs.Places as places
use Rattle.call_grammar.specs.Replays.{IsReplayed}
use Rattle.call_grammar.proofs.ReplaysAreCalls.{playing}
use Rattle.call_grammar.proofs.PlacesFollowTrees.{following}
use Rattle.link_endpoint.specs.Engine.{Engine, is_busy}
use Rattle.link_endpoint.specs.Refinement.{RefinesAt}
use Rattle.link_endpoint.specs.Runs.{TakesStep, TakesSteps, end_after_all, EndpointsMakeCalls}
use Rattle.link_endpoint.proofs.EndByPlace.{closed_at}

-- A step and the place after it ignore a value that isn't the result of a read.
ignored : (config : EndConfig) (place : places.Place) (value : ℕ) →
    (places.step_at config place (value_given (places.access_at config place) value) ≡ places.step_at config place value) ×
    (places.next_place config place (value_given (places.access_at config place) value) ≡ places.next_place config place value)
ignored config places.Closed value = (refl, refl)
ignored config _ value = (refl, refl)

-- A busy endpoint is at a place of an open call.
busy_open : (e : Engine) (config : EndConfig) (end : End) (place : places.Place) → RefinesAt e config end place → is_busy e ≡ places.is_open place
busy_open e config end place refines = grind (arith, common_steps)

-- The facts of an endpoint's step for an end that it refines.
record IsStepOf (step : Step) (new : Engine) (config : EndConfig) (end : End) (place : places.Place) : Type 0 where
  open_here : places.is_open place ≡ true
  value : ℕ
  step_is : step ≡ places.step_at config place value
  value_is : places.next_place config place step.value ≡ places.next_place config place value
  same : places.step_at config place step.value ≡ places.step_at config place value
  refines : RefinesAt new config (end_after end step) (places.next_place config place value)

step_is : (old new : Engine) (step : Step) (config : EndConfig) (end : End) (place : places.Place) → RefinesAt old config end place → TakesStep old step new → IsStepOf step new config end place
step_is old new step config end place refines takes =
    let a = takes.access config end place refines in
    let marks = takes.marks ∙ takes.takes.marked config end place refines in
    let given : step.value ≡ value_given (places.access_at config place) takes.handed = takes.value ∙ ap (λ x. value_given x takes.handed) a in
    let is : step ≡ places.step_at config place takes.handed = let record_is : step ≡ record { access = step.access; value = step.value; marks = step.marks } = refl in
    record_is ∙ (ap (λ (x : Access). let s : Step = record { access = x; value = step.value; marks = step.marks } in s) a
    ∙ (ap (λ (v : ℕ). let s : Step = record { access = places.access_at config place; value = v; marks = step.marks } in s) given
    ∙ ap (λ (m : List Mark). let s : Step = record { access = places.access_at config place; value = value_given (places.access_at config place) takes.handed; marks = m } in s) marks)) in
    record {
      open_here = sym (busy_open old config end place refines) ∙ takes.busy;
      value = takes.handed;
      step_is = is;
      value_is = ap (places.next_place config place) given ∙ (ignored config place takes.handed).1;
      same = ap (places.step_at config place) given ∙ (ignored config place takes.handed).0;
      refines = subst (λ s. RefinesAt new config (end_after end s) (places.next_place config place takes.handed)) (sym is) (takes.takes.refines config end place refines);
    }

-- The steps replay the call from the endpoint's place to its end.
played : (old last : Engine) (config : EndConfig) (end : End) (place : places.Place) (steps : List Step) → RefinesAt old config end place → TakesSteps old steps last → is_busy last ≡ false →
    IsReplayed config place steps × RefinesAt last config (end_after_all end steps) places.Closed
played old last config end place [] refines along over =
    let here : RefinesAt last config end place = subst (λ e. RefinesAt e config end place) (sym along) refines in
    let closed = closed_at last config end place over here in
    (closed, subst (λ p. RefinesAt last config end p) closed here)
played old last config end place (step ∷ steps) refines along over =
    let one = step_is old along.0 step config end place refines along.1 in
    let more = played along.0 last config (end_after end step) (places.next_place config place one.value) steps one.refines along.2 over in
    ((one.open_here, one.step_is ∙ sym one.same, subst (λ p. IsReplayed config p steps) (sym one.value_is) more.0), more.1)

-- The steps begin the call, wherever they end.
goes_along : (old last : Engine) (config : EndConfig) (end : End) (place : places.Place) (steps : List Step) → RefinesAt old config end place → TakesSteps old steps last →
    (left : CallTree) × GoesAlong (places.remaining config place) steps left
goes_along old last config end place [] refines along = (places.remaining config place, refl)
goes_along old last config end place (step ∷ steps) refines along =
    let one = step_is old along.0 step config end place refines along.1 in
    let more = goes_along along.0 last config (end_after end step) (places.next_place config place one.value) steps one.refines along.2 in
    let goes : Goes (places.remaining config place) step (places.remaining config (places.next_place config place one.value)) =
    subst (λ s. Goes (places.remaining config place) s (places.remaining config (places.next_place config place one.value))) (sym one.step_is) (following.comes config place one.value one.open_here) in
    (more.0, (places.remaining config (places.next_place config place one.value), goes, more.1))

pub endpoints_run : EndpointsMakeCalls
endpoints_run = record {
  whole = λ first last config end call steps refines along over.
      let p = played first last config end (places.first_place config end call) steps refines along over in (playing.call config end call steps p.0, p.1);
  begun = λ first last config end call steps refines along.
      let g = goes_along first last config end (places.first_place config end call) steps refines along in
      (g.0, subst (λ t. GoesAlong t steps g.0) (following.begins config end call) g.1);
}
