use Rattle.shared_words.specs.Rules.{accesses_by}
use Rattle.peer_runner.proofs.PairInvariant.{read_values_are_as_sent}
use Rattle.shared_words.proofs.ActionsMakeWords.{made_in}
use Rattle.peer_runner.proofs.laws.read_values_are_as_sent.Goals as goal

pub returns : goal.returns
returns c = λ key s kept p a b p2. read_values_are_as_sent key kept.fit a b _ _ (accesses_by kept.acc) (made_in key s kept) p p2
