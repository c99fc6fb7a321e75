use Rattle.frame_slots.proofs.AllocatorRefinesSession.{allocator_refines_session}
use Rattle.frame_slots.proofs.slots.allocator_refines_session.Goals as goal

pub returns : goal.returns
returns c = allocator_refines_session
