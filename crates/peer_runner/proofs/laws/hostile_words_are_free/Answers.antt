use Rattle.peer_runner.proofs.HostileStores.{hostile_words_are_free}
use Rattle.peer_runner.proofs.laws.hostile_words_are_free.Goals as goal

pub returns : goal.returns
returns c = hostile_words_are_free
