use Rattle.std.proofs.Common.{rules, subst, arith}
use Rattle.record_text.specs.Spelling.{AllFit}
use Rattle.record_text.proofs.run_printing.put_part.Goals as goal

pub returns-clause-is : goal.returns-clause-is
returns-clause-is c = record {
  peer = search (rules, arith);
  own = c.args.trace.now.own;
  fits = subst AllFit c.items.ensures c.in_ok-put_own_lines.ensures.fits;
  turns = c.turns_of.ensures.fits;
}
