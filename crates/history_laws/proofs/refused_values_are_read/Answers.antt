use Rattle.history_laws.proofs.AtMarks.{refused_values_are_read}
use Rattle.history_laws.proofs.refused_values_are_read.Goals as goal

pub returns : goal.returns
returns c = refused_values_are_read
