use Rattle.std.proofs.Common.{take}
use Rattle.ivshm_cli.specs.Counted.{HasCounted}
use Rattle.ivshm_cli.proofs.summary.Counts.count_all.Given as goal

abbrev pub invariant-loop-line : goal.invariant-loop-line
invariant-loop-line l = HasCounted l.initial.self l.self (take l.line-index l.lines)
