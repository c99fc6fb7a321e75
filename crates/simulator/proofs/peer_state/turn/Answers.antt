use Rattle.std.proofs.Common.{sym, subst}
use Rattle.lawful_history.specs.History.{turned}
use Rattle.lawful_history.specs.Sides.{config_of}
use Rattle.lawful_history.specs.Peers.{Waits, Storms}
use Rattle.simulator.specs.PeerStates.{LinkRefines, HasNoCalls, PeerStateRefines}
use Rattle.simulator.specs.declared.peer_state.PeerState.{PeerState}
use Rattle.std.proofs.lemmas.Result.{on_ok_weaker}
use Rattle.simulator.proofs.HonestTurns.{idle_turn, storm_turn}
use Rattle.simulator.proofs.peer_state.turn.Goals as goal

pub returns-in-Honest-clause-turn : goal.returns-in-Honest-clause-turn
returns-in-Honest-clause-turn c = λ world output past losses peer sizes after refines.
    let at : LinkRefines (config_of world c.args.me) peer c.in-Honest.link = subst (λ (s : PeerState). PeerStateRefines (config_of world c.args.me) peer s) c.in-Honest.is refines in
    c.take_turn.ensures.turn world output past losses peer after at

pub returns-in_ok-x-in-Storm-clause-turn : goal.returns-in_ok-x-in-Storm-clause-turn
returns-in_ok-x-in-Storm-clause-turn c = λ world output past losses peer sizes after refines.
    let at : HasNoCalls (Storms c.in-Storm.x) peer = subst (λ (s : PeerState). PeerStateRefines (config_of world c.args.me) peer s) c.in-Storm.is refines in
    let done = c.in_ok-x-in-Storm.ensures.turn world output past losses sizes after in
    storm_turn world output past losses c.args.me c.in-Storm.x c.in_ok-x-in-Storm.field-0 peer c.storm.new.world_state at done.0 done.1

pub returns-in-Idle-clause-turn : goal.returns-in-Idle-clause-turn
returns-in-Idle-clause-turn c = λ world output past losses peer sizes after refines.
    let at : HasNoCalls Waits peer = subst (λ (s : PeerState). PeerStateRefines (config_of world c.args.me) peer s) c.in-Idle.is refines in
    on_ok_weaker c.record_mark.result (λ recorded.
    let done = idle_turn world output past losses c.args.me peer c.record_mark.new.self at recorded in
    (done.0, subst (λ (s : PeerState). PeerStateRefines (config_of world c.args.me) (turned world c.args.me peer past) s) (sym c.in-Idle.is) done.1))
    (c.record_mark.ensures.after world output past losses after)
