use Rattle.sampling_port.proofs.CallsAreLists.{listing}
use Rattle.sampling_port.proofs.laws.calls_are_lists.Goals as goal

pub returns : goal.returns
returns c = listing
