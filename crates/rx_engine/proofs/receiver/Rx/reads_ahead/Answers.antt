use Rattle.std.proofs.Common.{arith}
use Rattle.std.proofs.lemmas.Grind.{common_steps}
use Rattle.rx_engine.proofs.FrameBursts.{reads_on}
use Rattle.rx_engine.proofs.receiver.Rx.reads_ahead.Goals as goal

pub returns-in-ReadingFrameWord-clause-reads : goal.returns-in-ReadingFrameWord-clause-reads
returns-in-ReadingFrameWord-clause-reads c = λ config end place word refines first.
    reads_on _ config end place word c.in-ReadingFrameWord.more c.in-ReadingFrameWord.entry c.in-ReadingFrameWord.address c.in-ReadingFrameWord.bytes c.in-ReadingFrameWord.at _ (grind (arith, common_steps)) (grind (arith, common_steps)) refines first
