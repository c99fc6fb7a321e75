use Rattle.std.proofs.Common.{refl, sym, ◌∙◌, arith}
use Rattle.std.proofs.lemmas.Option.{slice_get-get_or}
use Rattle.lawful_history.specs.Schedule.{StormStarted}
use Rattle.lawful_history.specs.Sides.{config_of}
use Rattle.lawful_history.specs.History.{peer_at}
use Rattle.simulator.specs.Simulator.{history_state_after}
use Rattle.simulator.specs.declared.peer_state.PeerState.TheVariants.{Storm, Idle}
use Rattle.simulator.proofs.OneMoreEvent.{peer_state_goes_on, sits_down, same_or}
use Rattle.simulator.proofs.simulator.Simulator.storm.Goals as goal

pub returns : goal.returns
returns c = λ world output events there hostile runs.
    let m = history_state_after world events in
    let p = c.args.peer in
    let count = runs.count in
    let here = slice_get-get_or c.args.self.now.peer_states.items p Idle (omega arith) in
    peer_state_goes_on world output events (StormStarted p c.args.seed) c.args.self.now _ _ (Storm c.args.seed) there (same_or c.args.self.now.peer_states.items p Idle (omega arith)) refl refl
    (λ refines. let sits = sits_down (config_of world p) (peer_at m p) _ (runs.linked p _ here ∙ hostile) refines in record { left = sits.0; waiting = sits.1; driver = refl })
    (λ kind. sym hostile) runs.after (λ q seated. seated) runs
