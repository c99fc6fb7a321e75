use Rattle.shared_words.specs.Rules.{lower, upper}
use Rattle.shared_words.proofs.words.split_pass.Given as goal

abbrev pub ghosts-split_at : goal.ghosts-split_at
ghosts-split_at a = record { left = lower a.from; right = upper a.from }
