use Rattle.std.proofs.Common.{subst}
use Rattle.ivshm_device.specs.Answers.{WritesWindow}
use Rattle.raw_box.proofs.Handles.{leads}
use Rattle.ivshm_device.proofs.exports.ivshm_device_mmio_write.Goals as goal

pub returns-clause-step : goal.returns-clause-step
returns-clause-step c = leads (WritesWindow c.args.peer c.args.access.now c.args.effect.now c.window_write-status.new.crossed) _ _ _ _ c.in-Some.ensures.state c.put.ensures
    (subst (λ state. WritesWindow c.args.peer c.args.access.now c.args.effect.now c.window_write-status.new.crossed state c.window_write-status.new.state) c.deref_mut.ensures.value c.window_write-status.ensures.step)
