-- The place where a list of lines differs from what a record of a version has of the lawful history
-- of a scenario. Lines are lawful in a version if a record of that version has them.
use Rattle.std.specs.Prelude.{ℕ, ◌≡◌, ◌≢◌, ◌+◌, ◌≤◌, Option, Some, None, List, [], ◌∷◌, ◌++◌, length}
use Rattle.scenario_text.specs.Scenario.{World}
use Rattle.lawful_history.specs.declared.line.Line.{Line}
use Rattle.lawful_history.specs.Lawful.{IsLawfulIn}
use Rattle.link_model.specs.declared.fault.Unlawful.{Unlawful}
use Rattle.link_model.specs.BrokenLaw.{law_between}

-- The first of these lines, if there is one.
abbrev pub head_of : List Line → Option Line
head_of [] = None
head_of (line ∷ lines) = Some line

-- The lawful history and the lines found are equal up to a place. There they have different lines,
-- or one of them is over. The fault is the number of that line, from 1, and the law that is broken
-- between the two.
pub record DiffersAt (lawful found : List Line) (fault : Unlawful) : Type 0 where
  pub before : List Line
  pub due : List Line
  pub given : List Line
  pub lawful_is : lawful ≡ before ++ due
  pub found_is : found ≡ before ++ given
  pub differ : head_of due ≢ head_of given
  pub line : fault.line ≡ length before + 1
  pub law : fault.law ≡ law_between (head_of due) (head_of given)

-- Each lawful history of the scenario begins with these lines.
abbrev pub Begins : World → (version : ℕ) → List Line → Type 0
Begins world version lines = (lawful : List Line) → IsLawfulIn world version lawful → (rest : List Line) × (lawful ≡ lines ++ rest)

-- No lawful history of the scenario begins with these lines.
abbrev pub BeginsNone : World → (version : ℕ) → List Line → Type 0
BeginsNone world version lines = (lawful rest : List Line) → IsLawfulIn world version lawful → lawful ≢ lines ++ rest

-- The lines differ from each lawful history of the scenario at the line of the fault.
abbrev pub Differs : World → (version : ℕ) → List Line → Unlawful → Type 0
Differs world version lines fault = (lawful : List Line) → IsLawfulIn world version lawful → DiffersAt lawful lines fault

-- The line of the fault is the first of these lines that is unlawful, so no lawful history begins
-- with them.
pub record Leaves (world : World) (version : ℕ) (lines : List Line) (fault : Unlawful) : Type 0 where
  pub none : BeginsNone world version lines
  pub differs : Differs world version lines fault
  pub within : fault.line ≤ length lines
