-- The replay of a call: each step is compared with the step at its place.
use Rattle.std.specs.Prelude.{◌≡◌, true, List, [], ◌∷◌}
use Rattle.call_grammar.specs.Steps.{Step}
use Rattle.call_grammar.specs.Ends.{End}
use Rattle.call_grammar.specs.Ticks.{EndConfig}
use Rattle.call_grammar.specs.Calls.{Call, IsCall}
use Rattle.call_grammar.specs.Places.{Place, Closed, first_place, next_place, step_at, is_open}

-- The steps replay the call from this place to its end. Each is the step at its place for the value
-- that it met, and after the last one no call is open.
abbrev pub IsReplayed : EndConfig → Place → List Step → Type 0
IsReplayed config place [] = place ≡ Closed
IsReplayed config place (step ∷ steps) =
    (is_open place ≡ true) × (step ≡ step_at config place step.value) × IsReplayed config (next_place config place step.value) steps

-- A list of steps is a call exactly if it replays from the call's first place.
pub record ReplaysAreCalls : Type 0 where
  pub call : (config : EndConfig) (end : End) (call : Call) (steps : List Step) →
      IsReplayed config (first_place config end call) steps → IsCall config end call steps
  pub played : (config : EndConfig) (end : End) (call : Call) (steps : List Step) →
      IsCall config end call steps → IsReplayed config (first_place config end call) steps
