-- An honest link peer in RESET writes no word of its section.
use Rattle.std.specs.Prelude.{ℕ, ◌≡◌, ◌≢◌, true, List, ◌∷◌, ◌++◌, reverse}
use Rattle.scenario_text.specs.Scenario.{World, IsWorld, is_link}
use Rattle.lawful_history.specs.declared.line.Line.{Line}
use Rattle.lawful_history.specs.declared.line.Line.TheVariants.{Write}
use Rattle.lawful_history.specs.Lawful.{IsLawful}
use Rattle.history_laws.specs.SideEvents.{side_of}

-- While its State word is 0, after its State line or its reset, no write of the peer follows.
abbrev pub ResetsAreQuiet : Type 0
ResetsAreQuiet = (world : World) (before after : List Line) (p word value : ℕ) → IsWorld world → is_link world p ≡ true →
    IsLawful world (before ++ Write p word value ∷ after) → (side_of (reverse before) p).state ≢ 0
