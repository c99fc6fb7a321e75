use Rattle.std.proofs.Common.{◌≡◌, length, ◌+◌, ◌-◌, ◌≤◌, take}
use Rattle.ivs_base.specs.SourceAndSink.{Took}
use Rattle.ivs_base.proofs.ends.write_whole.Given as goal

abbrev pub invariant-loop-at : goal.invariant-loop-at
invariant-loop-at g l = record {
  written : Took (g.K.Sink.output l.initial.sink) (take l.at l.bytes) (g.K.Sink.output l.sink);
  within : l.at ≤ length l.bytes;
  quiet : (g.K.Sink.output l.sink).faults ≡ (g.K.Sink.output l.initial.sink).faults;
  room : (g.K.Sink.output l.initial.sink).room ≤ (g.K.Sink.output l.sink).room + l.at;
}

abbrev pub decreases-loop-at : goal.decreases-loop-at
decreases-loop-at g l = length l.bytes - l.at
