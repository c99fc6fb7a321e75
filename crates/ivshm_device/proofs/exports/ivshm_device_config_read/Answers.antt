use Rattle.std.proofs.Common.{subst, sym, IfSome}
use Rattle.ivshm_device.specs.Answers.{ReadsConfig}
use Rattle.ivshm_device.proofs.exports.ivshm_device_config_read.Goals as goal

pub returns-clause-value : goal.returns-clause-value
returns-clause-value c =
    subst (λ p. IfSome p (λ state. ReadsConfig c.args.peer c.args.offset c.args.width c.args.value.now c.config_read-status.new.value state)) (sym c.in-Some.ensures.state)
    (subst (λ state. ReadsConfig c.args.peer c.args.offset c.args.width c.args.value.now c.config_read-status.new.value state) c.deref.ensures c.config_read-status.ensures.value)
