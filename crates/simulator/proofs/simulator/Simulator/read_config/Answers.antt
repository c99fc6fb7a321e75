use Rattle.std.proofs.Common.{refl}
use Rattle.lawful_history.specs.Schedule.{DeviceAccessed, ReadsConfig}
use Rattle.simulator.proofs.OneMoreEvent.{world_state_happens}
use Rattle.simulator.proofs.simulator.Simulator.read_config.Goals as goal

pub returns : goal.returns
returns c =
    world_state_happens c.read_config.result (DeviceAccessed c.args.peer (ReadsConfig c.args.offset c.args.width)) c.args.self.now _ refl refl (λ world m. refl)
    (λ world output m after. c.read_config.ensures.after world output m.past m.losses after) c.read_config.ensures.seated
