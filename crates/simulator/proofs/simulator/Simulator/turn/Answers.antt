use Rattle.std.proofs.Common.{refl, sym, ◌∙◌, ap, arith}
use Rattle.std.specs.Prelude.{Some}
use Rattle.std.proofs.lemmas.Option.{slice_get-get_or}
use Rattle.lawful_history.specs.Schedule.{TurnTaken}
use Rattle.lawful_history.specs.Sides.{config_of}
use Rattle.lawful_history.specs.History.{peer_at}
use Rattle.simulator.specs.Simulator.{history_state_after}
use Rattle.simulator.proofs.OneMoreEvent.{fit_at, peer_state_goes_on, peer_state_fits}
use Rattle.simulator.proofs.simulator.Simulator.turn.Goals as goal

pub turn-requires-clause-sizes : goal.turn-requires-clause-sizes
turn-requires-clause-sizes c =
    let world = c.requires.0 in
    let events = c.requires.2 in
    let runs = c.requires.3 in
    let below = c.requires.4 in
    let count = runs.count in
    let p = c.args.peer in
    let here = slice_get-get_or c.args.self.now.peer_states.items p _ (omega arith) ∙ ap Some (sym c.index_mut-peer_state.ensures.value) in
    let refines = runs.refines p _ here in (
      world,
      peer_at (history_state_after world events) p,
      record { is_world = runs.after.is_world; there = below; geometry = runs.geometry; queue = runs.queue },
      runs.after.shape,
      refines,
      peer_state_fits (config_of world p) (peer_at (history_state_after world events) p) _ refines (fit_at c.calls_are_permitted.ensures world events p runs.after.is_world runs.there),
    )

pub returns : goal.returns
returns c = λ world output events there runs.
    let m = history_state_after world events in
    let p = c.args.peer in
    let count = runs.count in
    let here = slice_get-get_or c.args.self.now.peer_states.items p _ (omega arith) ∙ ap Some (sym c.index_mut-peer_state.ensures.value) in
    let turned = c.in_ok-turn.ensures.turn world output m.past m.losses (peer_at m p) (record { is_world = runs.after.is_world; there = there; geometry = runs.geometry; queue = runs.queue }) runs.after (runs.refines p _ here) in
    peer_state_goes_on world output events (TurnTaken p) c.args.self.now _ _ c.turn.new.peer_state there c.index_mut-peer_state.ensures.value refl refl
    (λ refines. turned.1) (λ kind. c.in_ok-turn.ensures.kind ∙ kind) turned.0 c.in_ok-turn.ensures.seated runs
