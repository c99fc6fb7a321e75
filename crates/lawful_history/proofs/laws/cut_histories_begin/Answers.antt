use Rattle.lawful_history.proofs.Begins.{cut_histories_begin}
use Rattle.lawful_history.proofs.laws.cut_histories_begin.Goals as goal

pub returns : goal.returns
returns c = cut_histories_begin c.one_history.ensures c.history_is_lawful.ensures
