use Rattle.std.proofs.Common.{refl}
use Rattle.simulator.proofs.OneMoreEvent.{drained_on}
use Rattle.simulator.proofs.simulator.Simulator.drain.Goals as goal

pub returns-clause-on : goal.returns-clause-on
returns-clause-on c = λ world output events runs. drained_on world output events c.args.self.now _ refl refl refl refl refl c.clear.ensures.on runs
