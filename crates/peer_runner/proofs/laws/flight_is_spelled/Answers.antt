use Rattle.shared_words.specs.Rules.{accesses_by}
use Rattle.peer_runner.proofs.FlightIsSpelled.{flight_is_spelled}
use Rattle.shared_words.proofs.ActionsMakeWords.{made_in}
use Rattle.peer_runner.proofs.laws.flight_is_spelled.Goals as goal

pub returns : goal.returns
returns c = λ key s kept p hp. flight_is_spelled key kept.fit p hp _ _ (accesses_by kept.acc) (made_in key s kept)
