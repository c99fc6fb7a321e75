use Rattle.std.proofs.Common.{subst, sym, IfSome}
use Rattle.ivshm_device.specs.Answers.{ReadsWindow}
use Rattle.ivshm_device.proofs.exports.ivshm_device_mmio_read.Goals as goal

pub returns-clause-value : goal.returns-clause-value
returns-clause-value c =
    subst (λ p. IfSome p (λ state. ReadsWindow c.args.peer c.args.access.now c.window_read-status.new.access state)) (sym c.in-Some.ensures.state)
    (subst (λ state. ReadsWindow c.args.peer c.args.access.now c.window_read-status.new.access state) c.deref.ensures c.window_read-status.ensures.value)
