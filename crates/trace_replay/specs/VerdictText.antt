-- The text of a verdict (profile).
use Rattle.std.specs.Prelude.{ℕ, List, ◌++◌, codes, decimal}
use Rattle.link_model.specs.declared.fault.Unlawful.{Unlawful}
use Rattle.link_model.specs.LawNames.{name_of}
use Rattle.trace_replay.specs.declared.verdict.Verdict.{Verdict}
use Rattle.trace_replay.specs.declared.verdict.Verdict.TheVariants.{Same, Differs}

-- The line that names the first line that differs and the law that it breaks.
abbrev pub difference_line : Unlawful → List ℕ
difference_line fault = codes "differs " ++ decimal fault.line ++ codes " " ++ name_of fault.law ++ codes "\n"

abbrev pub verdict_line : Verdict → List ℕ
verdict_line Same = codes "same\n"
verdict_line (Differs fault) = difference_line fault
