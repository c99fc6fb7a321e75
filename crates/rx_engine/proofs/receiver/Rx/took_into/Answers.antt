use Rattle.std.proofs.Common.{[], ◌∷◌}
use Rattle.rx_engine.proofs.receiver.Rx.took_into.Goals as goal

pub returns-in-WritingUsedIndex-clause-steps : goal.returns-in-WritingUsedIndex-clause-steps
returns-in-WritingUsedIndex-clause-steps c = c.wrote_index.ensures.steps c.args.value

pub returns-in-ReadingFrameWord-clause-steps : goal.returns-in-ReadingFrameWord-clause-steps
returns-in-ReadingFrameWord-clause-steps c = (c.took_reads_into.ensures.steps (c.args.value ∷ []) c.to_le_bytes.ensures).0
