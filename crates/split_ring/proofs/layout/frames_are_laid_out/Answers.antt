use Rattle.split_ring.proofs.FramesAreLaidOut.{frames_are_laid_out}
use Rattle.split_ring.proofs.layout.frames_are_laid_out.Goals as goal

pub returns : goal.returns
returns c = frames_are_laid_out
