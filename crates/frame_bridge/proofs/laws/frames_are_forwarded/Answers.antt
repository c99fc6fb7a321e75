use Rattle.frame_bridge.proofs.Forwarded.{forwards}
use Rattle.frame_bridge.proofs.laws.frames_are_forwarded.Goals as goal

pub returns : goal.returns
returns c = forwards
