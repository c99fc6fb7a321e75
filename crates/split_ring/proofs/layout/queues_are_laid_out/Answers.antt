use Rattle.split_ring.proofs.QueuesAreLaidOut.{queues_are_laid_out}
use Rattle.split_ring.proofs.layout.queues_are_laid_out.Goals as goal

pub returns : goal.returns
returns c = queues_are_laid_out
