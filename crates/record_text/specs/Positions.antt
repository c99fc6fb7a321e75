-- The position in a text of a record.
use Rattle.std.specs.Prelude.{Bool, true, false}
use Rattle.record_text.specs.declared.drafts.RecordPosition.{RecordPosition}
use Rattle.record_text.specs.declared.drafts.RecordPosition.TheVariants.{AtFirst, AtScenario, AtHistory, Ended}

abbrev pub is_before_history : RecordPosition → Bool
is_before_history AtFirst = true
is_before_history AtScenario = true
is_before_history AtHistory = false
is_before_history Ended = false
