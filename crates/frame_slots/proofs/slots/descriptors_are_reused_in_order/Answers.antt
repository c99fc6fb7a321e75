use Rattle.frame_slots.proofs.DescriptorsAreReusedInOrder.{descriptors_are_reused_in_order}
use Rattle.frame_slots.proofs.slots.descriptors_are_reused_in_order.Goals as goal

pub returns : goal.returns
returns c = descriptors_are_reused_in_order
