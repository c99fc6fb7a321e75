use Rattle.sampling_port.proofs.SamplesArePublished.{got_is_published, looks_count_publishes, zero_is_nothing, nothing_is_unpublished, again_is_later, honest_is_not_refused}
use Rattle.sampling_port.proofs.laws.samples_are_published.Goals as goal

pub returns-clause-got : goal.returns-clause-got
returns-clause-got c = got_is_published c.one_history.ensures c.history_is_lawful.ensures

pub returns-clause-looks : goal.returns-clause-looks
returns-clause-looks c = looks_count_publishes c.one_history.ensures c.history_is_lawful.ensures

pub returns-clause-zero : goal.returns-clause-zero
returns-clause-zero c = zero_is_nothing c.one_history.ensures c.history_is_lawful.ensures

pub returns-clause-nothing : goal.returns-clause-nothing
returns-clause-nothing c = nothing_is_unpublished c.one_history.ensures c.history_is_lawful.ensures

pub returns-clause-again : goal.returns-clause-again
returns-clause-again c = again_is_later c.one_history.ensures c.history_is_lawful.ensures

pub returns-clause-refused : goal.returns-clause-refused
returns-clause-refused c = honest_is_not_refused c.one_history.ensures c.history_is_lawful.ensures
