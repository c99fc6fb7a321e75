use Rattle.std.proofs.Common.{refl, sym, ◌∙◌, ap, subst}
use Rattle.lawful_history.specs.Schedule.{AutoStarted}
use Rattle.lawful_history.specs.Sides.{config_of}
use Rattle.lawful_history.specs.History.{peer_at}
use Rattle.simulator.specs.PeerStates.{PeerStateRefines, is_honest}
use Rattle.simulator.specs.Simulator.{history_state_after}
use Rattle.simulator.specs.declared.peer_state.PeerState.{PeerState}
use Rattle.simulator.specs.declared.peer_state.PeerState.TheVariants.{Honest}
use Rattle.simulator.proofs.OneMoreEvent.{peer_state_goes_on}
use Rattle.simulator.proofs.simulator.Simulator.automate.Goals as goal

pub returns : goal.returns
returns c = λ world output events there runs.
    let m = history_state_after world events in
    let p = c.args.peer in
    peer_state_goes_on world output events (AutoStarted p c.args.expect) c.args.self.now _ _ (Honest c.automate.new.self) there c.index_mut.ensures.value refl refl
    (λ refines. c.automate.ensures (config_of world p) (peer_at m p) (subst (λ (s : PeerState). PeerStateRefines (config_of world p) (peer_at m p) s) c.in-Honest.is refines)) (λ kind. sym (ap is_honest c.in-Honest.is) ∙ kind) runs.after (λ q seated. seated) runs
