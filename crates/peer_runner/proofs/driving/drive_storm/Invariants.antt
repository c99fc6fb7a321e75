use Rattle.peer_runner.proofs.StormTurns.{LeftAt, LeftIn, StormAt}
use Rattle.peer_runner.proofs.driving.drive_storm.Given as goal

-- The spans so far.
abbrev pub invariant-loop-k : goal.invariant-loop-k
invariant-loop-k g l = StormAt l.fn.pass.table_id l.words.shared.key l.routes l.fn.storm l.spans (LeftAt l.spans l.k) l.pass l.storm l.ringing l.turns l.lines

-- The turns of a span so far.
abbrev pub invariant-loop-taken : goal.invariant-loop-taken
invariant-loop-taken g l = StormAt l.fn.pass.table_id l.words.shared.key l.routes l.fn.storm l.spans (LeftIn l.spans l.k l._taken) l.pass l.storm l.ringing l.turns l.lines
