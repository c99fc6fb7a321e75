use Rattle.std.proofs.Common.{arith}
use Rattle.frame_slots.proofs.PlacedFramesFit.{slot_fits}
use Rattle.frame_slots.proofs.slots.Slots.slot_for.Goals as goal

pub returns-else-is_byte_ring-clause-room : goal.returns-else-is_byte_ring-clause-room
returns-else-is_byte_ring-clause-room c = grind (arith, slot_fits)
