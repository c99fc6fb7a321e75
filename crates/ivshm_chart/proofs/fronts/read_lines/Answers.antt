use Rattle.std.proofs.Common.{◌++◌, length, ap, arith, length-append}
use Rattle.ivshm_chart.proofs.KeptLines.{keeps_on, passed_on}
use Rattle.ivshm_chart.proofs.fronts.read_lines.Goals as goal

pub loop-lines-preserved : goal.loop-lines-preserved
loop-lines-preserved c = λ bytes version world reads.
    let so_far = c.loop-lines.invariant bytes version world reads in
    let next = rw c.in-Some.is at (c.in_ok-line.ensures.reads bytes version world (c.loop-lines.lines ++ so_far.others) so_far.reads) in
    keeps_on bytes version world c.args.most c.loop-lines.lines c.keep.new.lines c.in-Some.line c.loop-lines.reader c.next.new.self so_far next c.in_ok-keep.ensures.kept c.in_ok-keep.ensures.full

pub returns-clause-read : goal.returns-clause-read
returns-clause-read c = λ bytes version world reads.
    let so_far = c.loop-lines.invariant bytes version world reads in
    let said = rw c.in_default.is at (c.in_ok-line.ensures.reads bytes version world (c.loop-lines.lines ++ so_far.others) so_far.reads) in
    record {
      others = so_far.others;
      counted = omega (arith, said.1, length-append c.loop-lines.lines so_far.others, c.saturating_sub-others.ensures, ap length c.items.ensures);
      frames = so_far.frames;
      spelled = said.0;
    }

pub returns-in_err-line-clause-refused : goal.returns-in_err-line-clause-refused
returns-in_err-line-clause-refused c = λ bytes version world reads.
    let so_far = c.loop-lines.invariant bytes version world reads in
    passed_on bytes c.in_err-line.field-0.0 c.from_residual.result c.from_residual.ensures.1 (c.in_err-line.ensures.reads bytes version world (c.loop-lines.lines ++ so_far.others) so_far.reads)
