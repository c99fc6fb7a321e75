use Rattle.link_model.proofs.PlayedActs.{turn_played}
use Rattle.link_model.proofs.expected_run.ExpectedRun.play_next.Goals as goal

pub returns-then-self-gt0-clause-played : goal.returns-then-self-gt0-clause-played
returns-then-self-gt0-clause-played c = λ output played. turn_played output c.args.self.now c.turn.new.self c.if-self-gt0.true c.in_ok-turn.ensures played
