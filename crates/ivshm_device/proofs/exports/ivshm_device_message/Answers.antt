use Rattle.std.proofs.Common.{subst, sym, IfSome}
use Rattle.ivshm_device.specs.Answers.{ReportsMessage}
use Rattle.ivshm_device.proofs.exports.ivshm_device_message.Goals as goal

pub returns-clause-value : goal.returns-clause-value
returns-clause-value c =
    subst (λ p. IfSome p (λ state. ReportsMessage c.args.peer c.args.vector c.args.crossed.now c.message-status.new.crossed state)) (sym c.in-Some.ensures.state)
    (subst (λ state. ReportsMessage c.args.peer c.args.vector c.args.crossed.now c.message-status.new.crossed state) c.deref.ensures c.message-status.ensures.message)
