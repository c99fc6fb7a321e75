use Rattle.sampling_port.proofs.CallsArePermitted.{reaching}
use Rattle.sampling_port.proofs.laws.calls_are_permitted.Goals as goal

pub returns : goal.returns
returns c = reaching
