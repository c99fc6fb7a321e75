use Rattle.std.proofs.Common.{refl}
use Rattle.simulator.proofs.InterruptLines.{read_after}
use Rattle.simulator.proofs.world_state.WorldState.read.Goals as goal

pub returns-clause-after : goal.returns-clause-after
returns-clause-after c = λ world output past losses after. read_after world output past losses c.args.self.now _ c.args.me c.args.word c.in-Ok.value after c.in-Ok.ensures.inside refl refl refl c.in_ok-push.ensures
