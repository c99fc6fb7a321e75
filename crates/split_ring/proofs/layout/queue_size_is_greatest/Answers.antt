use Rattle.split_ring.proofs.QueueSizeIsGreatest.{queue_size_is_greatest}
use Rattle.split_ring.proofs.layout.queue_size_is_greatest.Goals as goal

pub returns : goal.returns
returns c = queue_size_is_greatest
