use Rattle.record_sizes.proofs.RecordIsShort.{records_are_short, records_are_within_limit}
use Rattle.record_sizes.proofs.records_are_short.Goals as goal

pub returns-clause-bound : goal.returns-clause-bound
returns-clause-bound c = records_are_short

pub returns-clause-limit : goal.returns-clause-limit
returns-clause-limit c = records_are_within_limit
