use Rattle.link_progress.proofs.SleepersAreRung.{sleepers_are_rung}
use Rattle.link_progress.proofs.sleepers_are_rung.Goals as goal

pub returns : goal.returns
returns c = sleepers_are_rung
