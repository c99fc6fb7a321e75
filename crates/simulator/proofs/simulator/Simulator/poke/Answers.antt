use Rattle.std.proofs.Common.{refl}
use Rattle.std.specs.Prelude.{OnOk}
use Rattle.split_ring.specs.declared.steps.Access.TheVariants as access
use Rattle.lawful_history.specs.Schedule.{RegionAccessed}
use Rattle.simulator.specs.WorldState.{WorldStateAfter}
use Rattle.simulator.proofs.OneMoreEvent.{world_state_happens, poked}
use Rattle.simulator.proofs.simulator.Simulator.poke.Goals as goal

pub returns : goal.returns
returns c =
    world_state_happens c.poke.result (RegionAccessed c.args.peer (access.Write c.args.word c.args.value)) c.args.self.now _ refl refl (λ world m. refl)
    (λ world output m after. poked world m.past m.losses c.args.peer c.args.word c.args.value (λ ls. OnOk c.poke.result (WorldStateAfter world output ls m.losses c.poke.new.self)) (c.poke.ensures.after world output m.past m.losses after)) c.poke.ensures.seated
