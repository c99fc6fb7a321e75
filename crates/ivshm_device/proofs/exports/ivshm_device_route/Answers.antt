use Rattle.std.proofs.Common.{subst, sym, IfSome}
use Rattle.ivshm_device.specs.Answers.{ReportsRoute}
use Rattle.ivshm_device.proofs.exports.ivshm_device_route.Goals as goal

pub returns-clause-value : goal.returns-clause-value
returns-clause-value c =
    subst (λ p. IfSome p (λ state. ReportsRoute c.args.peer c.args.crossed.now c.route-status.new.crossed state)) (sym c.in-Some.ensures.state)
    (subst (λ state. ReportsRoute c.args.peer c.args.crossed.now c.route-status.new.crossed state) c.deref.ensures c.route-status.ensures.route)
