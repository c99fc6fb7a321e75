use Rattle.lawful_history.proofs.Exists.{history_is_lawful}
use Rattle.lawful_history.proofs.laws.history_is_lawful.Goals as goal

pub returns : goal.returns
returns c = history_is_lawful c.calls_are_permitted.ensures
