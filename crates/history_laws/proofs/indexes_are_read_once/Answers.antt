use Rattle.history_laws.proofs.AtMarks.{indexes_are_read_once}
use Rattle.history_laws.proofs.indexes_are_read_once.Goals as goal

pub returns : goal.returns
returns c = indexes_are_read_once
