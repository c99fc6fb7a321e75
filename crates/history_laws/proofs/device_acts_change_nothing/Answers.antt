use Rattle.history_laws.proofs.DeviceActs.{device_acts_change_nothing}
use Rattle.history_laws.proofs.device_acts_change_nothing.Goals as goal

pub returns : goal.returns
returns c = device_acts_change_nothing c.one_history.ensures c.history_is_lawful.ensures
