use Rattle.shared_words.specs.Rules.{accesses_by}
use Rattle.peer_runner.proofs.StatesFromLists.{words_follow_phases}
use Rattle.shared_words.proofs.ActionsMakeWords.{made_in}
use Rattle.peer_runner.proofs.laws.words_follow_phases.Goals as goal

pub returns : goal.returns
returns c = λ key s kept p hp. words_follow_phases key kept.fit p hp _ _ (accesses_by kept.acc) (made_in key s kept)
