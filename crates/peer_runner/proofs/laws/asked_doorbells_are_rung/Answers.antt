use Rattle.shared_words.specs.Rules.{region, accesses_by}
use Rattle.peer_runner.proofs.PairInvariant.{asked_is_rung}
use Rattle.shared_words.proofs.ActionsMakeWords.{made_in}
use Rattle.peer_runner.proofs.laws.asked_doorbells_are_rung.Goals as goal

pub returns : goal.returns
returns c = λ key s kept p a b p2. asked_is_rung key kept.fit a b (region key s.words) _ (accesses_by kept.acc) (made_in key s kept) p p2
