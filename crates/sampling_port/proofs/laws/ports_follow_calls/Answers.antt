use Rattle.sampling_port.proofs.PortFollowsCall.{following}
use Rattle.sampling_port.proofs.laws.ports_follow_calls.Goals as goal

pub returns : goal.returns
returns c = following
