use Rattle.std.proofs.Common.{ℕ, ◌∷◌, refl, subst}
use Rattle.split_ring.specs.declared.steps.Access.TheVariants as access
use Rattle.lawful_history.specs.declared.line.Line.TheVariants as line
use Rattle.lawful_history.specs.Schedule.{RegionAccessed}
use Rattle.simulator.specs.WorldState.{WorldStateAfter}
use Rattle.simulator.specs.Simulator.{history_state_after}
use Rattle.simulator.proofs.OneMoreEvent.{world_state_goes_on}
use Rattle.simulator.proofs.simulator.Simulator.peek.Goals as goal

pub returns : goal.returns
returns c = λ world output events there runs.
    let m = history_state_after world events in
    world_state_goes_on world output events (RegionAccessed c.args.peer (access.Read c.args.word)) c.args.self.now _ there refl refl refl (let gave = c.in_ok-read.ensures.after world output m.past m.losses runs.after in subst (λ (v : ℕ). WorldStateAfter world output (line.Read c.args.peer c.args.word v ∷ m.past) m.losses c.read.new.self) gave.0 gave.1) c.in_ok-read.ensures.seated runs
