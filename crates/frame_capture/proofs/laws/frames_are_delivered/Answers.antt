use Rattle.frame_capture.proofs.OneFile.{frames_are_delivered}
use Rattle.frame_capture.proofs.laws.frames_are_delivered.Goals as goal

pub returns : goal.returns
returns c = frames_are_delivered
