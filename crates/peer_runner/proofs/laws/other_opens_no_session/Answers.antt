use Rattle.shared_words.specs.Rules.{accesses_by}
use Rattle.peer_runner.proofs.PairInvariant.{other_opens_no_session}
use Rattle.shared_words.proofs.ActionsMakeWords.{made_in}
use Rattle.peer_runner.proofs.laws.other_opens_no_session.Goals as goal

pub returns : goal.returns
returns c = λ key s kept p a b p2. other_opens_no_session key kept.fit a b _ _ (accesses_by kept.acc) (made_in key s kept) p p2
