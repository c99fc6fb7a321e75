use Rattle.frame_slots.proofs.FramesInOrder.{IsFlight}
use Rattle.tests_ring.proofs.slots.descriptors_go_round.Given as goal

abbrev pub invariant-loop-i : goal.invariant-loop-i
invariant-loop-i g l = IsFlight l.slots 256 (λ k. 274) 0 l.i-counter
