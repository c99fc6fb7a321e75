use Rattle.lawful_history.proofs.Written.{reads_what_was_written, writes_where_it_may}
use Rattle.lawful_history.proofs.laws.memory_is_kept.Goals as goal

pub returns : goal.returns
returns c = record { reads = reads_what_was_written; writes = writes_where_it_may }
