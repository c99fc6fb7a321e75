use Rattle.std.proofs.Common.{◌≡◌, ℕ, List, ◌∷◌, length}
use Rattle.link_endpoint.specs.Plan.{Plan}
use Rattle.peer_runner.specs.Turns.{lines_of_turns}
use Rattle.peer_runner.specs.Runners.{Runner}
use Rattle.peer_runner.specs.Trajectories.{IsOnTrajectory}
use Rattle.peer_runner.proofs.PeerOnTrajectory.{IsInSpan}
use Rattle.peer_runner.proofs.driving.auto_span.Given as goal

-- The turns so far.
abbrev pub invariant-loop-taken : goal.invariant-loop-taken
invariant-loop-taken g l = (plan : Plan) (spans : List ℕ) (r : Runner) (rest : List ℕ) → IsOnTrajectory l.context.words.now.shared.table_id l.context.words.now.shared.key l.context.me l.context.routes.now plan spans r l.initial.pass l.initial.peer →
    r.spans ≡ l.span ∷ rest → l.initial.turns ≡ length r.turns → l.initial.lines ≡ lines_of_turns l.context.me r.turns →
    (next : Runner) × IsInSpan l.context.words.now.shared.table_id l.context.words.now.shared.key l.context.me l.context.routes.now plan spans l.span l._taken rest next l.pass l.peer l.turns l.lines
