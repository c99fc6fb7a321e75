use Rattle.std.proofs.Common.{refl}
use Rattle.std.specs.Prelude.{OnOk}
use Rattle.split_ring.specs.declared.steps.Access.TheVariants as access
use Rattle.lawful_history.specs.declared.line.Line.TheVariants as line
use Rattle.lawful_history.specs.Schedule.{RegionAccessed}
use Rattle.simulator.specs.WorldState.{WorldStateAfter}
use Rattle.simulator.proofs.OneMoreEvent.{world_state_happens, recorded_alone}
use Rattle.simulator.proofs.simulator.Simulator.set.Goals as goal

pub returns : goal.returns
returns c =
    world_state_happens c.set_state.result (RegionAccessed c.args.peer (access.State c.args.value)) c.args.self.now _ refl refl (λ world m. refl)
    (λ world output m after. recorded_alone world m.past m.losses (line.State c.args.peer c.args.value) (λ ls. OnOk c.set_state.result (WorldStateAfter world output ls m.losses c.set_state.new.self)) (c.set_state.ensures.after world output m.past m.losses after)) c.set_state.ensures.seated
