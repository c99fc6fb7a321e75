use Rattle.shared_words.specs.Rules.{accesses_by}
use Rattle.peer_runner.proofs.PairInvariant.{honest_peers_never_refuse}
use Rattle.shared_words.proofs.ActionsMakeWords.{made_in}
use Rattle.peer_runner.proofs.laws.honest_peers_never_refuse.Goals as goal

pub returns : goal.returns
returns c = λ key s kept p a b p2. honest_peers_never_refuse key kept.fit a b _ _ (accesses_by kept.acc) (made_in key s kept) p p2
