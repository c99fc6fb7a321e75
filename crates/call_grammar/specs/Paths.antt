-- The paths of a call: the steps from place to place.
use Rattle.std.specs.Prelude.{◌≡◌, true, List, [], ◌∷◌, ◌++◌}
use Rattle.call_grammar.specs.Steps.{Step}
use Rattle.call_grammar.specs.Ends.{End}
use Rattle.call_grammar.specs.Ticks.{EndConfig}
use Rattle.call_grammar.specs.Calls.{Call, IsCall}
use Rattle.call_grammar.specs.PlaceTable.{Place, Closed, first_place, next_place, step_at, is_open}

-- The steps lead from the first place to the second: each is the step at its place for the value
-- that it met. If the second place is `Closed`, these are the steps of a finished call, else of a
-- call that is cut.
abbrev pub Leads : EndConfig → Place → List Step → Place → Type 0
Leads config place [] new = new ≡ place
Leads config place (step ∷ steps) new =
    (is_open place ≡ true) × (step ≡ step_at config place step.value) ×
    Leads config (next_place config place step.value) steps new

-- A list of steps is a call exactly if it leads from the call's first place to `Closed`.
pub record PathsAreCalls : Type 0 where
  pub call : (config : EndConfig) (end : End) (call : Call) (steps : List Step) →
      Leads config (first_place config end call) steps Closed → IsCall config end call steps
  pub path : (config : EndConfig) (end : End) (call : Call) (steps : List Step) →
      IsCall config end call steps → Leads config (first_place config end call) steps Closed

-- A path can be cut at each of its steps, and joined.
pub record PathsJoin : Type 0 where
  pub cut : (config : EndConfig) (place new : Place) (steps more : List Step) →
      Leads config place (steps ++ more) new → (mid : Place) × Leads config place steps mid × Leads config mid more new
  pub join : (config : EndConfig) (place mid new : Place) (steps more : List Step) →
      Leads config place steps mid → Leads config mid more new → Leads config place (steps ++ more) new
