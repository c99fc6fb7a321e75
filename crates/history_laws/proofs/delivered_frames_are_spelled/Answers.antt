use Rattle.history_laws.proofs.SpelledReads.{delivered_frames_are_spelled}
use Rattle.history_laws.proofs.delivered_frames_are_spelled.Goals as goal

pub returns : goal.returns
returns c = delivered_frames_are_spelled
