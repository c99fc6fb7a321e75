use Rattle.shared_words.specs.Rules.{learns}
use Rattle.shared_words.proofs.words.learn.Given as goal

abbrev pub ghosts-learn_by : goal.ghosts-learn_by
ghosts-learn_by a = record { then = learns a.words.now.shared.key }
