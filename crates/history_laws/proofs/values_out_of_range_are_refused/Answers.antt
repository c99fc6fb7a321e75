use Rattle.history_laws.proofs.AtMarks.{out_of_range_is_refused}
use Rattle.history_laws.proofs.values_out_of_range_are_refused.Goals as goal

pub returns : goal.returns
returns c = out_of_range_is_refused
