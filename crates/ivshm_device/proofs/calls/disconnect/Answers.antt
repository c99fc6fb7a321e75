use Rattle.std.proofs.Common.{rules, subst}
use Rattle.ivshm_device.specs.Crossing.{CrossesEffect}
use Rattle.ivshm_device.specs.Answers.{peer_answer}
use Rattle.ivshm_device.proofs.AnswerCauses.{done}
use Rattle.ivshm_device.proofs.calls.disconnect.Goals as goal

pub returns-clause-step : goal.returns-clause-step
returns-clause-step c = done (peer_answer c.args.peer c.args.state.now) _ _ (search rules)
    (c.disconnect-effect.ensures.refines, λ w events refines. subst (λ effect. CrossesEffect effect c.cross_effect.new.crossed) (c.disconnect-effect.ensures.effect w events refines) c.cross_effect.ensures)
