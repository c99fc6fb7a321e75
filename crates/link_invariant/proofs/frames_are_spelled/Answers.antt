use Rattle.link_invariant.proofs.LinkInvariantKept.{frames_are_spelled}
use Rattle.link_invariant.proofs.frames_are_spelled.Goals as goal

pub returns : goal.returns
returns c = frames_are_spelled
