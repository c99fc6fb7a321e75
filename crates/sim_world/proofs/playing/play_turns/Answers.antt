use Rattle.std.proofs.Common.{◌≡◌, ℕ, ◌+◌, ◌-◌, ◌<◌, List, ◌∷◌, ◌++◌, [], replicate, arith, append_assoc, ap, ◌∙◌}
use Rattle.std.proofs.lemmas.List.{append-nil, replicate-append-replicate}
use Rattle.lawful_history.specs.Schedule.{TurnTaken}
use Rattle.sim_world.specs.Playing.{output_of}
use Rattle.sim_world.proofs.StoppedPlays.{passed_on, by_memory, stops_later, turns_left}
use Rattle.sim_world.proofs.playing.play_turns.Goals as goal

pub loop-k-init : goal.loop-k-init
loop-k-init g c = λ began world version events there received. rw append-nil received

pub turn-requires : goal.turn-requires
turn-requires g c =
    let run = c.requires in
    let so_far = c.loop-k.invariant run.0 run.1 run.2 run.3 run.5 run.4 in
    (run.1, output_of run.2 so_far.gone, _, so_far.runs, run.5)

one_more : {A : Type 0} (xs : List A) (n : ℕ) (x : A) → (xs ++ replicate n x) ++ x ∷ [] ≡ xs ++ replicate (n + 1) x
one_more xs n x = append_assoc xs (replicate n x) (x ∷ []) ∙ ap (λ r. xs ++ r) (replicate-append-replicate n 1 x)

pub loop-k-preserved : goal.loop-k-preserved
loop-k-preserved g c = λ began world version events there received.
    let so_far = c.loop-k.invariant began world version events there received in
    rw (← one_more events c.loop-k._k (TurnTaken c.args.peer))
    (c.in_ok-pass_on_many.ensures.received began world version _ (record { gone = so_far.gone; runs = c.in_ok-turn.ensures world (output_of version so_far.gone) _ there so_far.runs; lines = so_far.lines }))

pub returns-clause-received : goal.returns-clause-received
returns-clause-received g c = λ began world version events there received. let all : c.loop-k._k ≡ c.args.steps = omega arith in rw all at (c.loop-k.invariant began world version events there received)

pub returns-in_err-turn-clause-stopped : goal.returns-in_err-turn-clause-stopped
returns-in_err-turn-clause-stopped g c = λ began world version events there received. by_memory c.from_residual.result _ c.from_residual.ensures.1

pub returns-in_err-pass_on_many-clause-stopped : goal.returns-in_err-pass_on_many-clause-stopped
returns-in_err-pass_on_many-clause-stopped g c = λ began world version events there received.
    let so_far = c.loop-k.invariant began world version events there received in
    let k = c.loop-k._k in
    let steps = c.args.steps in
    let inside : k < steps = omega arith in
    passed_on c.in_err-pass_on_many.field-0.0 c.from_residual-in_err-pass_on_many.result _ c.from_residual-in_err-pass_on_many.ensures.1
    (λ is. stops_later world version (g.L.Listener.stopped_after began c.pass_on_many.new.listener) _ (replicate (steps - (k + 1)) (TurnTaken c.args.peer)) _ (turns_left events (TurnTaken c.args.peer) k steps inside)
    (c.in_err-pass_on_many.ensures.stopped began world version _ (record { gone = so_far.gone; runs = c.in_ok-turn.ensures world (output_of version so_far.gone) _ there so_far.runs; lines = so_far.lines }) is))
