use Rattle.sampling_port.proofs.Once.{once}
use Rattle.sampling_port.proofs.laws.fields_are_read_once.Goals as goal

pub returns : goal.returns
returns c = once
