use Rattle.shared_words.proofs.ActionsMakeWords.{interrupts_by}
use Rattle.peer_runner.proofs.laws.interrupts_are_rung.Goals as goal

pub returns : goal.returns
returns c = λ key s kept. interrupts_by key s.words kept.acc kept.fit kept.memory
