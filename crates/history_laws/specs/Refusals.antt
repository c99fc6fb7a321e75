-- The refusals of a lawful history, and their consequences.
use Rattle.std.specs.Prelude.{ℕ, ◌≡◌, ◌≢◌, ◌-◌, true, false, List, ◌∷◌, ◌++◌, reverse, All}
use Rattle.split_ring.specs.declared.ranges.Refused.{Refused}
use Rattle.scenario_text.specs.Scenario.{World, IsWorld, is_link}
use Rattle.link_machine.specs.LinkMachine.{IsBeyond}
use Rattle.lawful_history.specs.declared.line.Line.{Line}
use Rattle.lawful_history.specs.declared.line.Line.TheVariants.{State, Reset, Refuse}
use Rattle.lawful_history.specs.Lawful.{IsLawful}
use Rattle.history_laws.specs.SideEvents.{side_of}

-- If both link peers are honest, neither refuses.
abbrev pub HonestPeersNeverRefuse : Type 0
HonestPeersNeverRefuse = (world : World) (before after : List Line) (p : ℕ) (refused : Refused) → IsWorld world → is_link world 0 ≡ true →
    is_link world 1 ≡ true → ¬ IsLawful world (before ++ Refuse p refused ∷ after)

-- A refusal: an honest link peer refuses against a hostile one, in RUN, and the value is outside
-- the range of its field.
pub record IsRefusal (world : World) (past : List Line) (p : ℕ) (refused : Refused) : Type 0 where
  pub honest : is_link world p ≡ true
  pub hostile : is_link world (1 - p) ≡ false
  pub run : (side_of past p).state ≡ 3
  pub beyond : IsBeyond world.queue (side_of past p) refused.field refused.value

abbrev pub RefusesOutOfRange : Type 0
RefusesOutOfRange = (world : World) (before after : List Line) (p : ℕ) (refused : Refused) → IsWorld world →
    IsLawful world (before ++ Refuse p refused ∷ after) → IsRefusal world (reverse before) p refused

-- A peer that refused sets no State except 0 until its device is reset.
abbrev pub RefusedPeersStayInReset : Type 0
RefusedPeersStayInReset = (world : World) (before between after : List Line) (p value : ℕ) (refused : Refused) → IsWorld world →
    IsLawful world (before ++ Refuse p refused ∷ between ++ State p value ∷ after) → All (λ line. line ≢ Reset p) between → value ≡ 0
