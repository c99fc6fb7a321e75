-- Steps of an endpoint that are completed together, and the states that they lead to.
use Rattle.std.specs.Prelude.{ℕ, List}
use Rattle.split_ring.specs.declared.steps.Note.{Note}
use Rattle.call_grammar.specs.Ends.{End}
use Rattle.call_grammar.specs.Calls.{EndConfig}
use Rattle.call_grammar.specs.Places as places
use Rattle.call_grammar.specs.Bursts.{StepsThrough, end_after_all, place_after}
use Rattle.link_endpoint.specs.Engine.{Engine}
use Rattle.link_endpoint.specs.Refinement.{RefinesAt, Takes}
use Rattle.link_endpoint.specs.Refusal.{StaysRefused}

-- One step, with all that the contracts say of a step.
pub record IsTaken (old : Engine) (value : ℕ) (notes : List Note) (new : Engine) : Type 0 where
  pub takes : Takes old value notes new
  pub away : StaysRefused old value notes new

-- After a burst of steps an endpoint refines the end after these steps of the grammar, at the place
-- after them.
abbrev pub BurstsGoOn : Type 0
BurstsGoOn = (old new : Engine) (values : List ℕ) (notes : List Note) (config : EndConfig) (end : End) (place : places.Place) →
    StepsThrough IsTaken old values notes new → RefinesAt old config end place →
    RefinesAt new config (end_after_all config end place values) (place_after config place values)
