use Rattle.std.proofs.Common.{refl}
use Rattle.lawful_history.specs.Schedule.{DeviceAccessed, WritesMsix}
use Rattle.simulator.proofs.OneMoreEvent.{world_state_happens}
use Rattle.simulator.proofs.simulator.Simulator.write_msix.Goals as goal

pub returns : goal.returns
returns c =
    world_state_happens c.write_msix.result (DeviceAccessed c.args.peer (WritesMsix c.args.offset c.args.value)) c.args.self.now _ refl refl (λ world m. refl)
    (λ world output m after. c.write_msix.ensures.after world output m.past m.losses after) c.write_msix.ensures.seated
