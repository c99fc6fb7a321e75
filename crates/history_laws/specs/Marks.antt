-- The marks of sessions in a history of version 2, and their session numbers. Lines are listed
-- newest first.
use Rattle.std.specs.Prelude.{ℕ, ◌≡◌, ◌-◌, true, if◌then◌else◌, List, ◌∷◌, ◌++◌, reverse}
use Rattle.scenario_text.specs.Scenario.{World, IsWorld, is_link}
use Rattle.lawful_history.specs.declared.line.Line.{Line}
use Rattle.lawful_history.specs.declared.line.Line.TheVariants.{Session}
use Rattle.lawful_history.specs.Lawful.{IsLawfulIn}
use Rattle.history_laws.specs.SideEvents.{side_of}
use Rattle.history_laws.specs.Sessions.{log_of}

-- A mark of a session is at the entry of an honest link peer into RUN. It has the number of
-- sessions that the peer opened, and the number that the other opened, or 0 against a hostile
-- other. Between two honest peers the latter is the number of the session that it carries.
pub record IsNumbered (world : World) (past : List Line) (p opened other : ℕ) : Type 0 where
  pub honest : is_link world p ≡ true
  pub run : (side_of past p).state ≡ 3
  pub own : opened ≡ (log_of past p).opened
  pub others : other ≡ (if is_link world (1 - p) then (log_of past (1 - p)).opened else 0)
  pub carried : is_link world (1 - p) ≡ true → other ≡ (log_of past p).carried

-- Each mark satisfies this.
abbrev pub SessionsAreNumbered : Type 0
SessionsAreNumbered = (world : World) (before after : List Line) (p opened other : ℕ) → IsWorld world →
    IsLawfulIn world 2 (before ++ Session p opened other ∷ after) → IsNumbered world (reverse before) p opened other
