use Rattle.std.proofs.lemmas.List.{get_or_default}
use Rattle.line_format.specs.Rows.{flag_row}
use Rattle.line_format.proofs.PartLaws.{numbered-more}
use Rattle.line_format.proofs.writing.put_flags.Goals as goal

pub loop-number-preserved : goal.loop-number-preserved
loop-number-preserved g c = rw (c.in_ok-put_flag.ensures, c.loop-number.invariant) (numbered-more g.G.Grammar.rules.pieces_of (flag_row c.args.set c.args.clear) c.args.out.now.items c.args.flags.now c.loop-number.number _ c.loop-number-test.true (get_or_default _ _ _ _ c.loop-number-test.true))
