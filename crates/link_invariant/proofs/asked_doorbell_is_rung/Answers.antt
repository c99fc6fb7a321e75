use Rattle.link_invariant.proofs.DoorbellIsRung.{asked_doorbell_is_rung}
use Rattle.link_invariant.proofs.asked_doorbell_is_rung.Goals as goal

pub returns : goal.returns
returns c = asked_doorbell_is_rung
