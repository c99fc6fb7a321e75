-- The number that acts count for.
use Rattle.std.specs.Prelude.{ℕ, List, sum_by}
use Rattle.port_text.specs.declared.acts.Act.{Act}
use Rattle.port_text.specs.declared.acts.Act.TheVariants.{Turn}

-- `turn P K` counts for K acts, and any other for 1.
abbrev pub cost : Act → ℕ
cost (Turn peer steps) = steps
cost _ = 1

-- The number that these acts count for.
abbrev pub turns_of : List Act → ℕ
turns_of acts = sum_by cost acts
