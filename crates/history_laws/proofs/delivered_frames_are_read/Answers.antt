use Rattle.history_laws.proofs.AtMarks.{delivered_frames_are_read}
use Rattle.history_laws.proofs.delivered_frames_are_read.Goals as goal

pub returns : goal.returns
returns c = delivered_frames_are_read
