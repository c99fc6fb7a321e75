use Rattle.std.proofs.Common.{rules, arith, refl}
use Rattle.shared_words.proofs.ScenarioRoutes.{flags_more}
use Rattle.shared_words.proofs.run_setup.one_shot_of.Goals as goal

pub loop-peer-init : goal.loop-peer-init
loop-peer-init c = (refl, λ p lt. absurd (omega arith))

pub loop-peer-preserved : goal.loop-peer-preserved
loop-peer-preserved c = flags_more (λ route. route.one_shot) c.args.routes.now c.loop-peer.flags c.loop-peer.peer _ _ refl (omega arith) (search rules) c.loop-peer.invariant

pub returns : goal.returns
returns c = λ p lt. c.loop-peer.invariant.1 p (omega arith)
