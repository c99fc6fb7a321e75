use Rattle.sampling_port.proofs.Exists.{history_is_lawful}
use Rattle.sampling_port.proofs.PortFollowsCall.{following}
use Rattle.sampling_port.proofs.laws.history_is_lawful.Goals as goal

pub returns : goal.returns
returns c = history_is_lawful following
