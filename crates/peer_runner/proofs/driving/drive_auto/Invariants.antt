use Rattle.peer_runner.proofs.PeerOnTrajectory.{IsDue, IsAt}
use Rattle.peer_runner.proofs.driving.drive_auto.Given as goal

-- The spans so far.
abbrev pub invariant-loop-k : goal.invariant-loop-k
invariant-loop-k g l = IsAt l.context.words.now.shared.table_id l.context.words.now.shared.key l.context.me l.context.routes.now l.initial.peer.driven.auto l.spans (IsDue l.spans l.k) l.pass l.peer l.turns l.lines
