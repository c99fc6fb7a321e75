use Rattle.std.proofs.Common.{ℕ}
use Rattle.frame_slots.proofs.FramesInOrder.{IsFlight}
use Rattle.tests_ring.proofs.slots.frame_fills_the_area.Given as goal

abbrev pub invariant-loop : goal.invariant-loop
invariant-loop g l = (sent : ℕ) × IsFlight l.slots 14574 (λ k. 14592) sent sent
