use Rattle.std.proofs.Common.{sym, subst, arith}
use Rattle.frame_slots.specs.Refinement.{IsOldest}
use Rattle.frame_slots.proofs.PlacedFramesFit.{oldest_fits}
use Rattle.frame_slots.proofs.slots.Slots.free.Goals as goal
use Rattle.frame_slots.proofs.slots.Slots.free.Goals.{then-self+then-end-self, else-self}

pub invariant_of-self : goal.invariant_of-self
invariant_of-self c = record {
  next = c.self.invariant.next;
  in_flight = let most = c.self.invariant.in_flight in omega arith;
  head = elim c.if-self.branch [
    | then-self+then-end-self w ↦ let is = w.self-is in omega arith
    | else-self w ↦
        let is = w.self-is in
        let fits = oldest_fits _ _ (subst (λ t. IsOldest t c.args.len) (sym c.self.view_is) c.requires) in
        let bytes = c.ring_bytes-bytes.ensures.value in
        omega arith
  ];
  tail = c.self.invariant.tail;
}
