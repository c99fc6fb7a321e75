use Rattle.history_laws.proofs.RefusalRows.{refuses_out_of_range}
use Rattle.history_laws.proofs.refused_values_are_out_of_range.Goals as goal

pub returns : goal.returns
returns c = refuses_out_of_range
