use Rattle.shared_words.specs.Rules.{clears}
use Rattle.shared_words.proofs.interrupts.clear.Given as goal

abbrev pub ghosts-clear_by : goal.ghosts-clear_by
ghosts-clear_by a = record { then = clears a.words.now.shared.key a.target }
