use Rattle.std.proofs.Common.{arith, sym, ap, length}
use Rattle.record_text.proofs.PrintedRun.{parts_put, parts_are, parts_count, count_small}
use Rattle.record_text.proofs.run_printing.put_parts.Goals as goal

pub overflow_add-count-in-loop-trace : goal.overflow_add-count-in-loop-trace
overflow_add-count-in-loop-trace c =
    let few = count_small c.args.traces.now c.loop-trace.trace-index c.trace-item.result c.args.out.now.items c.loop-trace.out.items c.loop-trace.count _ c.loop-trace-test.true c.trace-item.is c.loop-trace.invariant.count c.loop-trace.invariant.put (ap length c.items.ensures) in omega (arith, few, ap length c.in_ok-put_part.ensures.put, c.put_part.new.out.small, c.put_part.new.out.ok.0, c.put_part.new.out.ok.1)

pub loop-trace-preserved : goal.loop-trace-preserved
loop-trace-preserved c = record {
  put = rw (c.in_ok-put_part.ensures.put, c.loop-trace.invariant.put) (parts_put c.args.out.now.items c.args.traces.now c.loop-trace.trace-index c.trace-item.result c.loop-trace-test.true c.trace-item.is);
  are = parts_are c.args.traces.now c.loop-trace.trace-index c.trace-item.result c.loop-trace-test.true c.trace-item.is c.loop-trace.invariant.are c.in_ok-put_part.ensures.is;
  count = rw (c.items.ensures, c.loop-trace.invariant.count) (sym (parts_count c.args.traces.now c.loop-trace.trace-index c.trace-item.result c.loop-trace-test.true c.trace-item.is));
}
