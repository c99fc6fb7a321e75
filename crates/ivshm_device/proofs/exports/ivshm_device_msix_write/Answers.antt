use Rattle.std.proofs.Common.{subst}
use Rattle.doorbell_irq.specs.Events.{MsixWritten}
use Rattle.ivshm_device.specs.Answers.{Changes}
use Rattle.raw_box.proofs.Handles.{leads}
use Rattle.ivshm_device.proofs.exports.ivshm_device_msix_write.Goals as goal

pub returns-clause-step : goal.returns-clause-step
returns-clause-step c = leads (Changes c.args.peer (MsixWritten c.args.peer c.args.offset c.args.value)) _ _ _ _ c.in-Some.ensures.state c.put.ensures
    (subst (λ state. Changes c.args.peer (MsixWritten c.args.peer c.args.offset c.args.value) state c.msix_write-status.new.state) c.deref_mut.ensures.value c.msix_write-status.ensures.step)
