use Rattle.std.proofs.Common.{subst}
use Rattle.doorbell_irq.specs.Events.{WasConnected}
use Rattle.ivshm_device.specs.Answers.{Changes}
use Rattle.raw_box.proofs.Handles.{leads}
use Rattle.ivshm_device.proofs.exports.ivshm_device_connect.Goals as goal

pub returns-clause-step : goal.returns-clause-step
returns-clause-step c = leads (Changes c.args.peer (WasConnected c.args.peer)) _ _ _ _ c.in-Some.ensures.state c.put.ensures
    (subst (λ state. Changes c.args.peer (WasConnected c.args.peer) state c.connect-status.new.state) c.deref_mut.ensures.value c.connect-status.ensures.step)
