use Rattle.shared_words.proofs.ActionsMakeWords.{made_in}
use Rattle.peer_runner.proofs.laws.words_are_made.Goals as goal

pub returns : goal.returns
returns c = made_in
