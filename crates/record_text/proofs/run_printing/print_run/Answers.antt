use Rattle.record_text.specs.RunSpelling.{run_of}
use Rattle.record_text.proofs.TextDeterminesRun.{alone}
use Rattle.record_text.proofs.run_printing.print_run.Goals as goal

pub returns-clause-alone : goal.returns-clause-alone
returns-clause-alone c = alone (run_of c.args.trace.now) c.put_run.new.out.items (c.in_ok-put_run.ensures.is, rw c.new-out.ensures.items at c.in_ok-put_run.ensures.put)
