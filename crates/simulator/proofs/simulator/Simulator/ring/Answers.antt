use Rattle.std.proofs.Common.{refl}
use Rattle.std.specs.Prelude.{OnOk}
use Rattle.split_ring.specs.declared.steps.Access.TheVariants as access
use Rattle.lawful_history.specs.declared.line.Line.TheVariants as line
use Rattle.lawful_history.specs.Schedule.{RegionAccessed}
use Rattle.simulator.specs.WorldState.{WorldStateAfter}
use Rattle.simulator.proofs.OneMoreEvent.{world_state_happens, recorded_alone}
use Rattle.simulator.proofs.simulator.Simulator.ring.Goals as goal

pub returns : goal.returns
returns c =
    world_state_happens c.ring.result (RegionAccessed c.args.peer (access.Ring c.args.target c.args.vector)) c.args.self.now _ refl refl (λ world m. refl)
    (λ world output m after. recorded_alone world m.past m.losses (line.Doorbell c.args.peer c.args.target c.args.vector) (λ ls. OnOk c.ring.result (WorldStateAfter world output ls m.losses c.ring.new.self)) (c.ring.ensures.after world output m.past m.losses after)) c.ring.ensures.seated
