use Rattle.std.proofs.Common.{refl}
use Rattle.lawful_history.specs.Schedule.{InterruptDropped}
use Rattle.simulator.specs.Simulator.{history_state_after}
use Rattle.simulator.proofs.OneMoreEvent.{world_state_goes_on}
use Rattle.simulator.proofs.simulator.Simulator.lose.Goals as goal

pub returns : goal.returns
returns c = λ world output events there runs.
    let m = history_state_after world events in
    world_state_goes_on world output events (InterruptDropped c.args.peer) c.args.self.now _ there refl refl refl (c.lose.ensures.after world output m.past m.losses runs.after) c.lose.ensures.seated runs
