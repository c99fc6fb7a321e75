use Rattle.std.proofs.Common.{refl}
use Rattle.lawful_history.specs.Schedule.{DeviceAccessed, ReadsMsix}
use Rattle.simulator.proofs.OneMoreEvent.{world_state_happens}
use Rattle.simulator.proofs.simulator.Simulator.read_msix.Goals as goal

pub returns : goal.returns
returns c =
    world_state_happens c.read_msix.result (DeviceAccessed c.args.peer (ReadsMsix c.args.offset)) c.args.self.now _ refl refl (λ world m. refl)
    (λ world output m after. c.read_msix.ensures.after world output m.past m.losses after) c.read_msix.ensures.seated
