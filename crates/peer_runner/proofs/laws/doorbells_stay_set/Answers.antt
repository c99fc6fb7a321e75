use Rattle.peer_runner.proofs.DoorbellsStaySet.{doorbells_of}
use Rattle.peer_runner.proofs.laws.doorbells_stay_set.Goals as goal

pub returns : goal.returns
returns c = λ key s kept. doorbells_of key kept.fit _ kept.acc kept.memory.happened
