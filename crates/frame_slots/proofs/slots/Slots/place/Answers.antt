use Rattle.std.proofs.Common.{rules}
use Rattle.frame_slots.proofs.PlacedFramesFit.{alone_of}
use Rattle.frame_slots.proofs.slots.Slots.place.Goals as goal

pub returns-clause-alone : goal.returns-clause-alone
returns-clause-alone c = rw c.slot_for-slot.ensures.value (alone_of c.args.self.now c.args.len c.has_room.ensures.bounds (search rules))
