use Rattle.std.proofs.Common.{refl}
use Rattle.lawful_history.specs.Schedule.{DeviceAccessed, WritesConfig}
use Rattle.simulator.proofs.OneMoreEvent.{world_state_happens}
use Rattle.simulator.proofs.simulator.Simulator.write_config.Goals as goal

pub returns : goal.returns
returns c =
    world_state_happens c.write_config.result (DeviceAccessed c.args.peer (WritesConfig c.args.offset c.args.width c.args.value)) c.args.self.now _ refl refl (λ world m. refl)
    (λ world output m after. c.write_config.ensures.after world output m.past m.losses after) c.write_config.ensures.seated
