use Rattle.line_format.proofs.CutBytes.{cut_none, cut_at}
use Rattle.line_format.proofs.cuts.cut.Goals as goal

pub returns-in-None-clause-cuts : goal.returns-in-None-clause-cuts
returns-in-None-clause-cuts c = cut_none c.args.byte c.args.bytes.now c.in-None.ensures

pub returns-in-Some-clause-cuts : goal.returns-in-Some-clause-cuts
returns-in-Some-clause-cuts c =
    let all = cut_at c.args.byte c.args.bytes.now c.in-Some.end c.in-Some.ensures.0.high c.in-Some.ensures.1 c.in-Some.ensures.0.before in
    rw (c.split_at-in-Some.ensures.back, c.split_at.ensures.front, c.split_at.ensures.back) all
