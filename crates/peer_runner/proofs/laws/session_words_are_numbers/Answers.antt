use Rattle.peer_runner.proofs.SessionWords.{session_words_are_numbers}
use Rattle.peer_runner.proofs.laws.session_words_are_numbers.Goals as goal

pub returns : goal.returns
returns c = session_words_are_numbers
