use Rattle.history_laws.proofs.NextFrameRings.{wakes_are_rung}
use Rattle.history_laws.proofs.wakes_are_rung.Goals as goal

pub returns : goal.returns
returns c = wakes_are_rung
