use Rattle.std.proofs.Common.{refl}
use Rattle.lawful_history.specs.Schedule.{DeviceAccessed, WritesRegister}
use Rattle.simulator.proofs.OneMoreEvent.{world_state_happens}
use Rattle.simulator.proofs.simulator.Simulator.write_other_register.Goals as goal

pub returns : goal.returns
returns c =
    world_state_happens c.write_register.result (DeviceAccessed c.args.peer (WritesRegister c.args.offset c.args.value)) c.args.self.now _ refl refl (λ world m. refl)
    (λ world output m after. c.write_register.ensures.after world output m.past m.losses after) c.write_register.ensures.seated
