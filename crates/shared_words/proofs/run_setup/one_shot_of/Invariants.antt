use Rattle.shared_words.proofs.ScenarioRoutes.{AreFlags}
use Rattle.shared_words.proofs.run_setup.one_shot_of.Given as goal

-- the flags of the peers so far
abbrev pub invariant-loop-peer : goal.invariant-loop-peer
invariant-loop-peer l = AreFlags (λ route. route.one_shot) l.routes l.flags l.peer
