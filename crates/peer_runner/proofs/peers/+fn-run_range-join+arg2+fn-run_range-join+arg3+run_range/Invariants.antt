use Rattle.peer_runner.proofs.peers.+fn-run_range-join+arg2+fn-run_range-join+arg3+run_range.Given as goal

abbrev pub decreases-join+arg2 : goal.decreases-join+arg2
decreases-join+arg2 g l = l.half

abbrev pub decreases-join+arg3 : goal.decreases-join+arg3
decreases-join+arg3 g l = l.rest

abbrev pub decreases-run_range : goal.decreases-run_range
decreases-run_range g l = l.range.count
