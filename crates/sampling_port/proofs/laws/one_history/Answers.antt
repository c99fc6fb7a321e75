use Rattle.sampling_port.proofs.Unique.{has_one_history}
use Rattle.sampling_port.proofs.laws.one_history.Goals as goal

pub returns : goal.returns
returns c = has_one_history
