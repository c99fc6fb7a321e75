use Rattle.std.proofs.Common.{◌≡◌, arith, replicate}
use Rattle.std.proofs.lemmas.List.{append-nil, length-append, length-replicate}
use Rattle.sampling_port.specs.Schedule.{TurnTaken}
use Rattle.sampling_port.proofs.OneMoreEvent.{turn_more}
use Rattle.sampling_port.proofs.simulator.Simulator.turns.Goals as goal

pub loop-k-init : goal.loop-k-init
loop-k-init c = λ world front events there few runs. rw append-nil runs

pub turn-requires : goal.turn-requires
turn-requires c =
    let r = c.requires in
    let few = r.5 in
    let both = length-append r.2 (replicate c.loop-k._k (TurnTaken c.args.peer)) in
    let turns = length-replicate c.loop-k._k (TurnTaken c.args.peer) in
    let less = c.loop-k-test.true in
    (r.0, r.1, _, c.loop-k.invariant r.0 r.1 r.2 r.4 r.5 r.3, r.4, omega arith)

pub loop-k-preserved : goal.loop-k-preserved
loop-k-preserved c = λ world front events there few runs.
    let less = c.loop-k-test.true in
    turn_more world front events c.args.peer c.loop-k._k _ _ there (omega arith) c.in_ok-turn.ensures (c.loop-k.invariant world front events there few runs)

pub returns : goal.returns
returns c = λ world front events there few runs. let all : c.loop-k._k ≡ c.args.steps = omega arith in rw all at (c.loop-k.invariant world front events there few runs)
