use Rattle.std.proofs.Common.{◌≡◌, ◌+◌, ◌-◌, ◌≤◌, length}
use Rattle.ivs_base.specs.SourceAndSink.{Gave}
use Rattle.ivs_base.proofs.ends.read_all.Given as goal

abbrev pub invariant-loop-chunk : goal.invariant-loop-chunk
invariant-loop-chunk g l = record {
  read : Gave (g.S.Source.input l.initial.source) l.bytes.items (g.S.Source.input l.source);
  within : length l.bytes.items ≤ l.limit + 1;
  quiet : (g.S.Source.input l.source).faults ≡ (g.S.Source.input l.initial.source).faults;
  same : (g.S.Source.input l.source).never_fails ≡ (g.S.Source.input l.initial.source).never_fails;
}

abbrev pub decreases-loop-chunk : goal.decreases-loop-chunk
decreases-loop-chunk g l = l.limit + 1 - length l.bytes.items
