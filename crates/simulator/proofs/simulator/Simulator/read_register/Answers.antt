use Rattle.std.proofs.Common.{refl}
use Rattle.lawful_history.specs.Schedule.{DeviceAccessed, ReadsRegister}
use Rattle.simulator.proofs.OneMoreEvent.{world_state_happens}
use Rattle.simulator.proofs.simulator.Simulator.read_register.Goals as goal

pub returns : goal.returns
returns c =
    world_state_happens c.read_register.result (DeviceAccessed c.args.peer (ReadsRegister c.args.offset)) c.args.self.now _ refl refl (λ world m. refl)
    (λ world output m after. c.read_register.ensures.after world output m.past m.losses after) c.read_register.ensures.seated
