use Rattle.sampling_port.proofs.NumbersNeverFall.{numbers_never_fall}
use Rattle.sampling_port.proofs.laws.numbers_never_fall.Goals as goal

pub returns : goal.returns
returns c = numbers_never_fall c.one_history.ensures c.history_is_lawful.ensures
