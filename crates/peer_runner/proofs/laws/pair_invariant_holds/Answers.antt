use Rattle.shared_words.specs.Rules.{accesses_by}
use Rattle.peer_runner.proofs.PairInvariant.{pair_invariant}
use Rattle.shared_words.proofs.ActionsMakeWords.{made_in}
use Rattle.peer_runner.proofs.laws.pair_invariant_holds.Goals as goal

pub returns : goal.returns
returns c = λ key s kept p a b p2. pair_invariant key kept.fit a b _ _ (accesses_by kept.acc) (made_in key s kept) p p2
