-- The steps of a call of an endpoint, as the contracts of `next` and `took` describe them, over any
-- values.
use Rattle.std.specs.Prelude.{ℕ, ◌≡◌, true, false, List, [], ◌∷◌}
use Rattle.split_ring.specs.declared.steps.Note.{Note}
use Rattle.call_grammar.specs.Steps.{Step, value_given}
use Rattle.call_grammar.specs.Trees.{CallTree, GoesAlong}
use Rattle.call_grammar.specs.Ends.{End, end_after}
use Rattle.call_grammar.specs.Calls.{EndConfig, Call, tree_of, IsCall}
use Rattle.call_grammar.specs.Places as places
use Rattle.link_endpoint.specs.Engine.{Engine, is_busy, offered, delivered}
use Rattle.link_endpoint.specs.Refinement.{RefinesAt, Takes, marks_between}

-- The endpoint makes a step: its access is the access that `next` returned, and its marks are the
-- marks of the notes. `took` got any value, which is the step's value if the access is a read.
pub record TakesStep (old : Engine) (step : Step) (new : Engine) : Type 0 where
  pub busy : is_busy old ≡ true
  pub access : (config : EndConfig) (end : End) (place : places.Place) → RefinesAt old config end place → step.access ≡ places.access_at config place
  pub handed : ℕ
  pub value : step.value ≡ value_given step.access handed
  pub notes : List Note
  pub marks : step.marks ≡ marks_between (offered old) (delivered new) notes
  pub takes : Takes old handed notes new

-- The endpoint makes these steps in order.
abbrev pub TakesSteps : Engine → List Step → Engine → Type 0
TakesSteps old [] new = new ≡ old
TakesSteps old (step ∷ steps) new = (mid : Engine) × TakesStep old step mid × TakesSteps mid steps new

-- The end after these steps.
abbrev pub end_after_all : End → List Step → End
end_after_all end [] = end
end_after_all end (step ∷ steps) = end_after_all (end_after end step) steps

-- An endpoint at the first place of a call, where `begin` and `offer` put it, makes that call. If
-- no call is open after the steps, they are the whole call, and the endpoint refines the end after
-- them. If the call is cut or still open, the steps begin the call.
pub record EndpointsMakeCalls : Type 0 where
  pub whole : (first last : Engine) (config : EndConfig) (end : End) (call : Call) (steps : List Step) →
      RefinesAt first config end (places.first_place config end call) → TakesSteps first steps last → is_busy last ≡ false →
      IsCall config end call steps × RefinesAt last config (end_after_all end steps) places.Closed
  pub begun : (first last : Engine) (config : EndConfig) (end : End) (call : Call) (steps : List Step) →
      RefinesAt first config end (places.first_place config end call) → TakesSteps first steps last →
      (left : CallTree) × GoesAlong (tree_of config end call) steps left
