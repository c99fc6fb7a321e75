use Rattle.frame_slots.proofs.FramesInOrder.{IsFlight, lengths}
use Rattle.tests_ring.proofs.slots.ring_is_full.Given as goal

abbrev pub invariant-loop-i : goal.invariant-loop-i
invariant-loop-i g l = IsFlight l.slots 256 lengths 0 l.i
