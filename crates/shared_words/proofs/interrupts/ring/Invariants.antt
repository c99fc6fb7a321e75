use Rattle.shared_words.specs.Rules.{rings_at}
use Rattle.shared_words.proofs.interrupts.ring.Given as goal

abbrev pub ghosts-ring_by : goal.ghosts-ring_by
ghosts-ring_by a = record { then = rings_at a.target a.bit }
