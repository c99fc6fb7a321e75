use Rattle.std.proofs.Common.{subst}
use Rattle.doorbell_irq.specs.Events.{RegisterWritten}
use Rattle.ivshm_device.specs.Answers.{Acts}
use Rattle.raw_box.proofs.Handles.{leads}
use Rattle.ivshm_device.proofs.exports.ivshm_device_register_write.Goals as goal

pub returns-clause-step : goal.returns-clause-step
returns-clause-step c = leads (Acts c.args.peer (RegisterWritten c.args.peer c.args.offset c.args.value) c.args.effect.now c.register_write-status.new.crossed) _ _ _ _ c.in-Some.ensures.state c.put.ensures
    (subst (λ state. Acts c.args.peer (RegisterWritten c.args.peer c.args.offset c.args.value) c.args.effect.now c.register_write-status.new.crossed state c.register_write-status.new.state) c.deref_mut.ensures.value c.register_write-status.ensures.step)
