use Rattle.ivshm_cli.proofs.ReplayReadsRecord.{rereads}
use Rattle.ivshm_cli.proofs.laws.written_records_replay_as_same.Goals as goal

pub returns : goal.returns
returns c = rereads c.records_are_short.ensures.limit
