use Rattle.link_invariant.proofs.Frames.{frames_come_whole}
use Rattle.link_invariant.proofs.frames_come_whole.Goals as goal

pub returns : goal.returns
returns c = frames_come_whole
