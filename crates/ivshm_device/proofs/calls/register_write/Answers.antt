use Rattle.std.proofs.Common.{ℕ, ◌<◌, rules, arith, sym, subst}
use Rattle.doorbell_irq.specs.Events.{RegisterWritten}
use Rattle.doorbell_irq.specs.DeviceRules.{effect_of}
use Rattle.doorbell_irq.specs.Refinement.{Adds, peer_count}
use Rattle.ivshm_device.specs.Crossing.{CrossesEffect}
use Rattle.ivshm_device.specs.Answers.{peer_answer}
use Rattle.ivshm_device.proofs.AnswerCauses.{done}
use Rattle.ivshm_device.proofs.calls.register_write.Goals as goal

pub returns-then-offset-eq-REGISTER_DOORBELL-clause-step : goal.returns-then-offset-eq-REGISTER_DOORBELL-clause-step
returns-then-offset-eq-REGISTER_DOORBELL-clause-step c =
    let inside : c.args.peer < peer_count c.args.state.now.device = omega (arith, c.peers.ensures) in
    done (peer_answer c.args.peer c.args.state.now) _ _ (search rules) (
      subst (λ (offset : ℕ). Adds (RegisterWritten c.args.peer offset c.args.value) c.args.state.now.device c.ring.new.self)
          (sym c.if-offset-eq-REGISTER_DOORBELL.true) (c.ring.ensures.refines c.args.peer inside),
      λ w events refines. subst (λ (offset : ℕ). CrossesEffect (effect_of w events (RegisterWritten c.args.peer offset c.args.value)) c.cross_delivery.new.crossed)
          (sym c.if-offset-eq-REGISTER_DOORBELL.true)
          (subst (λ effect. CrossesEffect effect c.cross_delivery.new.crossed) (c.ring.ensures.effect c.args.peer inside w events refines) c.cross_delivery.ensures),
    )

pub returns-else-offset-eq-REGISTER_DOORBELL-clause-step : goal.returns-else-offset-eq-REGISTER_DOORBELL-clause-step
returns-else-offset-eq-REGISTER_DOORBELL-clause-step c = done (peer_answer c.args.peer c.args.state.now) _ _ (search rules)
    (c.register_write-effect.ensures.refines, λ w events refines. subst (λ effect. CrossesEffect effect c.cross_effect.new.crossed) (c.register_write-effect.ensures.effect w events refines) c.cross_effect.ensures)
