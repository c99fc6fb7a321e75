use Rattle.ivshm_cli.proofs.Captured.{lines_within}
use Rattle.ivshm_cli.proofs.replies.record_in.Goals as goal

pub returns-clause-few : goal.returns-clause-few
returns-clause-few c = lines_within _ _ _ _ c.in-Ok.ensures.found
