-- The view of a run, and the cause of its fault.
use Rattle.std.specs.Prelude.{ℕ, ⊤, Option, List}
use Rattle.scenario_text.specs.Scenario.{World}
use Rattle.lawful_history.specs.declared.line.Line.{Line}
use Rattle.link_model.specs.declared.fault.StepFault.{StepFault}
use Rattle.link_model.specs.declared.fault.StepFault.TheVariants.{Unlawful, NoMemory}
use Rattle.link_model.specs.Difference.{Leaves}

-- The view of a run: its scenario, the record's version, the lines that it took, and its fault, if
-- any.
pub record Taking : Type 0 where
  pub world : World
  pub version : ℕ
  pub lines : List Line
  pub fault : Option StepFault

-- The cause of a fault at the last of these lines: with it they differ from the lawful history, or
-- memory ran out.
abbrev pub IsCause : World → (version : ℕ) → List Line → StepFault → Type 0
IsCause world version lines (Unlawful fault) = Leaves world version lines fault
IsCause world version lines NoMemory = ⊤
