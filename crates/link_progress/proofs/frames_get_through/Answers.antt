use Rattle.link_progress.proofs.FramesGetThrough.{frames_get_through}
use Rattle.link_progress.proofs.frames_get_through.Goals as goal

pub returns : goal.returns
returns c = frames_get_through
