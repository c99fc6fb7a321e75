use Rattle.ivshm_cli.proofs.Counted.{line_more}
use Rattle.ivshm_cli.proofs.summary.Counts.count_all.Goals as goal

pub loop-line-preserved : goal.loop-line-preserved
loop-line-preserved c = line_more c.args.self.now c.loop-line.self c.count.new.self c.args.lines.now c.loop-line.line-index c.line-item.result c.loop-line-test.true c.line-item.is c.loop-line.invariant c.in_ok-count.ensures
