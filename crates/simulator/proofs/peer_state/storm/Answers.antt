use Rattle.std.proofs.Common.{ap}
use Rattle.step_lines.specs.declared.storm.Storm.{Storm}
use Rattle.simulator.proofs.HonestTurns.{storm_performed}
use Rattle.simulator.proofs.peer_state.storm.Goals as goal

pub returns-clause-turn : goal.returns-clause-turn
returns-clause-turn c = λ world output past losses sizes after. (
  ap (λ (s : Storm). s.at) c.step-access.ensures.after,
  storm_performed world output past losses c.args.me c.args.x c.perform.new.self c.step-access.result _ (c.step-access.ensures.step world (search)) (c.in_ok-perform.ensures.after world output past losses after).1,
)
