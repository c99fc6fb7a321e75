use Rattle.std.proofs.Common.{refl}
use Rattle.lawful_history.specs.Schedule.{InterruptRepeated}
use Rattle.simulator.proofs.OneMoreEvent.{world_state_happens}
use Rattle.simulator.proofs.simulator.Simulator.repeat.Goals as goal

pub returns : goal.returns
returns c =
    world_state_happens c.repeat.result (InterruptRepeated c.args.peer c.args.vector) c.args.self.now _ refl refl (λ world m. refl)
    (λ world output m after. c.repeat.ensures.after world output m.past m.losses after) c.repeat.ensures.seated
