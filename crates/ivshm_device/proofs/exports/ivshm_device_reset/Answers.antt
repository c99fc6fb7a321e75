use Rattle.std.proofs.Common.{subst}
use Rattle.doorbell_irq.specs.Events.{WasReset}
use Rattle.ivshm_device.specs.Answers.{Acts}
use Rattle.raw_box.proofs.Handles.{leads}
use Rattle.ivshm_device.proofs.exports.ivshm_device_reset.Goals as goal

pub returns-clause-step : goal.returns-clause-step
returns-clause-step c = leads (Acts c.args.peer (WasReset c.args.peer) c.args.effect.now c.reset-status.new.crossed) _ _ _ _ c.in-Some.ensures.state c.put.ensures
    (subst (λ state. Acts c.args.peer (WasReset c.args.peer) c.args.effect.now c.reset-status.new.crossed state c.reset-status.new.state) c.deref_mut.ensures.value c.reset-status.ensures.step)
