use Rattle.record_chart.proofs.PairArrows.{own_arrows}
use Rattle.record_chart.proofs.laws.deliveries_have_their_arrows.Goals as goal

pub returns : goal.returns
returns c = own_arrows c.histories_run_the_machine.ensures
