use Rattle.shared_words.specs.Rules.{accesses_by}
use Rattle.shared_words.specs.RunSetups.{link_config_of}
use Rattle.peer_runner.proofs.EndsAlong.{alone_at}
use Rattle.peer_runner.proofs.ReadValues.{in_range}
use Rattle.shared_words.proofs.ActionsMakeWords.{made_in}
use Rattle.peer_runner.proofs.laws.read_values_are_in_range.Goals as goal

pub returns : goal.returns
returns c = λ key s kept p hp. in_range (link_config_of key) _ p _ _ (alone_at key kept.fit _ _ (accesses_by kept.acc) (made_in key s kept) p hp)
