use Rattle.lawful_history.proofs.Unique.{has_one_history}
use Rattle.lawful_history.proofs.laws.one_history.Goals as goal

pub returns : goal.returns
returns c = has_one_history
