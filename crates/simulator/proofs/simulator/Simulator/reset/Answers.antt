use Rattle.std.proofs.Common.{refl, ◌∙◌}
use Rattle.lawful_history.specs.Schedule.{DeviceReset}
use Rattle.lawful_history.specs.Sides.{config_of}
use Rattle.lawful_history.specs.History.{peer_at}
use Rattle.simulator.specs.Simulator.{history_state_after}
use Rattle.simulator.proofs.OneMoreEvent.{peer_state_goes_on}
use Rattle.simulator.proofs.simulator.Simulator.reset.Goals as goal

pub returns : goal.returns
returns c = λ world output events there runs.
    let m = history_state_after world events in
    let p = c.args.peer in
    peer_state_goes_on world output events (DeviceReset p) c.args.self.now _ _ c.reset.new.peer_state there c.index_mut.ensures.value refl refl
    (λ refines. c.reset.ensures.reset (config_of world p) (peer_at m p) refines) (λ kind. c.reset.ensures.kind ∙ kind) (c.in_ok-reset.ensures.after world output m.past m.losses runs.after) c.in_ok-reset.ensures.seated runs
