use Rattle.shared_words.specs.Rules.{accesses_by}
use Rattle.peer_runner.proofs.StatesFromLists.{accesses_are_calls}
use Rattle.shared_words.proofs.ActionsMakeWords.{made_in}
use Rattle.peer_runner.proofs.laws.accesses_are_calls.Goals as goal

pub returns : goal.returns
returns c = λ key s kept p hp. accesses_are_calls key kept.fit p hp _ _ (accesses_by kept.acc) (made_in key s kept)
