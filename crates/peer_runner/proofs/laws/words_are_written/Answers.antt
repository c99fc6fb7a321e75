use Rattle.shared_words.specs.Rules.{accesses_by}
use Rattle.peer_runner.proofs.StatesFromLists.{words_are_written}
use Rattle.shared_words.proofs.ActionsMakeWords.{made_in}
use Rattle.peer_runner.proofs.laws.words_are_written.Goals as goal

pub returns : goal.returns
returns c = λ key s kept p hp. words_are_written key kept.fit p hp _ _ (accesses_by kept.acc) (made_in key s kept)
