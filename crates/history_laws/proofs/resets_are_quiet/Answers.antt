use Rattle.history_laws.proofs.AtMarks.{resets_are_quiet}
use Rattle.history_laws.proofs.resets_are_quiet.Goals as goal

pub returns : goal.returns
returns c = resets_are_quiet
