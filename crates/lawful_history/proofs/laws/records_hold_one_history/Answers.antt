use Rattle.lawful_history.proofs.SessionMarks.{has_one_history_in, history_is_lawful_in}
use Rattle.lawful_history.proofs.laws.records_hold_one_history.Goals as goal

pub returns : goal.returns
returns c = record { one = has_one_history_in c.one_history.ensures; recorded = history_is_lawful_in c.history_is_lawful.ensures }
