use Rattle.std.proofs.Common.{subst}
use Rattle.ivshm_device.specs.Answers.{WritesConfig}
use Rattle.raw_box.proofs.Handles.{leads}
use Rattle.ivshm_device.proofs.exports.ivshm_device_config_write.Goals as goal

pub returns-clause-step : goal.returns-clause-step
returns-clause-step c = leads (WritesConfig c.args.peer c.args.offset c.args.width c.args.value) _ _ _ _ c.in-Some.ensures.state c.put.ensures
    (subst (λ state. WritesConfig c.args.peer c.args.offset c.args.width c.args.value state c.config_write-status.new.state) c.deref_mut.ensures.value c.config_write-status.ensures.step)
