use Rattle.history_laws.proofs.PollDeliveries.{done_polls_deliver_all}
use Rattle.history_laws.proofs.done_polls_deliver_all.Goals as goal

pub returns : goal.returns
returns c = done_polls_deliver_all
