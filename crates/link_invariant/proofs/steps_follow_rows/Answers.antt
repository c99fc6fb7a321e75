use Rattle.link_invariant.proofs.RowsKept.{steps_follow_rows}
use Rattle.link_invariant.proofs.steps_follow_rows.Goals as goal

pub returns : goal.returns
returns c = steps_follow_rows
