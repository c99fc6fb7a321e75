use Rattle.std.proofs.Common.{◌≡◌, ℕ, ◌+◌, List, ◌∷◌, ◌++◌, [], replicate, arith, append_assoc, ap, ◌∙◌}
use Rattle.std.proofs.lemmas.List.{append-nil, replicate-append-replicate}
use Rattle.lawful_history.specs.Schedule.{TurnTaken}
use Rattle.simulator.proofs.simulator.Simulator.turns.Goals as goal

pub loop-k-init : goal.loop-k-init
loop-k-init c = λ world output events there runs. rw append-nil runs

pub turn-requires : goal.turn-requires
turn-requires c = let run = c.requires in (run.0, run.1, _, c.loop-k.invariant run.0 run.1 run.2 run.4 run.3, run.4)

one_more : {A : Type 0} (xs : List A) (n : ℕ) (x : A) → (xs ++ replicate n x) ++ x ∷ [] ≡ xs ++ replicate (n + 1) x
one_more xs n x = append_assoc xs (replicate n x) (x ∷ []) ∙ ap (λ r. xs ++ r) (replicate-append-replicate n 1 x)

pub loop-k-preserved : goal.loop-k-preserved
loop-k-preserved c = λ world output events there runs. rw (← one_more events c.loop-k._k (TurnTaken c.args.peer)) (c.in_ok-turn.ensures world output _ there (c.loop-k.invariant world output events there runs))

pub returns : goal.returns
returns c = λ world output events there runs. let all : c.loop-k._k ≡ c.args.steps = omega arith in rw all at (c.loop-k.invariant world output events there runs)
