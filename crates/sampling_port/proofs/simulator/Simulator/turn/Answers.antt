use Rattle.std.proofs.Common.{refl, sym, ◌∙◌, ap, arith}
use Rattle.std.specs.Prelude.{Some}
use Rattle.std.proofs.lemmas.Option.{slice_get-get_or}
use Rattle.sampling_port.specs.Schedule.{TurnTaken}
use Rattle.sampling_port.proofs.OneMoreEvent.{ready_at, room_of, peer_state_happens}
use Rattle.sampling_port.proofs.simulator.Simulator.turn.Goals as goal

pub turn-requires-clause-ready : goal.turn-requires-clause-ready
turn-requires-clause-ready c =
    let world = c.requires.0 in
    let events = c.requires.2 in
    let runs = c.requires.3 in
    let below = c.requires.4 in
    let count = runs.count in
    let p = c.args.peer in
    let here = slice_get-get_or c.args.self.now.peer_states.items p _ (omega arith) ∙ ap Some (sym c.index_mut.ensures.value) in
    (world, ready_at world events p _ runs.is_world runs.few runs.there below (runs.peer_states p _ here), runs.shape)

pub turn-requires-clause-room : goal.turn-requires-clause-room
turn-requires-clause-room c = let r = c.requires in let room = room_of r.0 r.1 r.2 c.args.self.now r.3 in omega arith

pub returns : goal.returns
returns c =
    let runs = c.requires.3 in
    let below = c.requires.4 in
    let count = runs.count in
    let here = slice_get-get_or c.args.self.now.peer_states.items c.args.peer _ (omega arith) ∙ ap Some (sym c.index_mut.ensures.value) in
    peer_state_happens c.turn.result (TurnTaken c.args.peer) c.args.self.now _ _ c.turn.new.peer_state here refl c.turn.ensures.shape c.turn.ensures.after
