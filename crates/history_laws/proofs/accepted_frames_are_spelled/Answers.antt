use Rattle.history_laws.proofs.AtMarks.{histories_spell_accepted}
use Rattle.history_laws.proofs.accepted_frames_are_spelled.Goals as goal

pub returns : goal.returns
returns c = histories_spell_accepted
