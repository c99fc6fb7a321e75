use Rattle.peer_runner.proofs.laws.all_words_are_made.Goals as goal

pub returns : goal.returns
returns c = λ key s kept. kept.memory.happened
