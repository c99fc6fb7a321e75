use Rattle.frame_slots.proofs.FramesInOrder.{IsFlight}
use Rattle.tests_ring.proofs.slots.frames_go_round_the_ring.Given as goal

abbrev pub invariant-loop-i : goal.invariant-loop-i
invariant-loop-i g l = IsFlight l.slots 256 (λ k. 14) l.i l.i
