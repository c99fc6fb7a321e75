use Rattle.record_text.proofs.PrintedHistory.{all-more}
use Rattle.record_text.proofs.PrintedRun.{own_more}
use Rattle.record_text.proofs.run_printing.put_own_lines.Goals as goal

pub loop-line-preserved : goal.loop-line-preserved
loop-line-preserved c = record {
  put = rw (c.in_ok-put_history_line.ensures.put, c.loop-line.invariant.put) (own_more c.args.out.now.items c.args.lines.now c.loop-line.line-index c.line-item.result c.loop-line-test.true c.line-item.is);
  fits = all-more c.args.lines.now c.loop-line.line-index c.line-item.result c.loop-line-test.true c.line-item.is c.loop-line.invariant.fits c.in_ok-put_history_line.ensures.fits;
}
