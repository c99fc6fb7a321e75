use Rattle.std.proofs.Common.{refl, sym, ◌∙◌, ap, arith}
use Rattle.std.specs.Prelude.{Some}
use Rattle.std.proofs.lemmas.List.{map-append}
use Rattle.std.proofs.lemmas.Option.{slice_get-get_or}
use Rattle.sampling_port.specs.Schedule.{CallQueued}
use Rattle.sampling_port.specs.Simulator.{call_of}
use Rattle.sampling_port.proofs.OneMoreEvent.{happened}
use Rattle.sampling_port.proofs.simulator.Simulator.ask.Goals as goal

pub returns : goal.returns
returns c =
    let below = c.requires in
    let here = slice_get-get_or c.args.self.now.peer_states.items c.args.peer _ (omega arith) ∙ ap Some (sym c.index_mut.ensures.value) in
    happened (CallQueued c.args.peer (call_of c.args.call)) c.args.self.now _ _ _ here refl refl
    (λ front past after. (after, ap (λ ws. record { port = c.index_mut.result.now.port; waiting = ws }) (rw (c.in_ok-push_back.ensures.items, map-append) refl)))
