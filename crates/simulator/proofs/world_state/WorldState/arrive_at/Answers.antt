use Rattle.std.proofs.Common.{refl, arith}
use Rattle.std.proofs.lemmas.List.{get_or_past}
use Rattle.std.proofs.lemmas.Result.{on_ok_weaker}
use Rattle.simulator.proofs.InterruptLines.{comes, is_lost}
use Rattle.simulator.proofs.world_state.WorldState.arrive_at.Goals.{else-peer-lt8-via-then-peer-lt8+else-self-peer-gt0, else-peer-lt8-via-else-peer-lt8}
use Rattle.simulator.proofs.world_state.WorldState.arrive_at.Goals as goal

pub returns-then-self-peer-gt0-clause-after : goal.returns-then-self-peer-gt0-clause-after
returns-then-self-peer-gt0-clause-after c = λ world output past losses after.
    on_ok_weaker c.push.result (λ log_step. is_lost world output past losses c.args.self.now _ c.args.delivery.now after c.if-peer-lt8.true c.if-self-peer-gt0.true refl refl refl log_step) c.push.ensures

pub returns-else-peer-lt8-clause-after : goal.returns-else-peer-lt8-clause-after
returns-else-peer-lt8-clause-after c = λ world output past losses after.
    on_ok_weaker c.push-else-peer-lt8.result (λ log_step. comes world output past losses c.args.self.now _ c.args.delivery.now after (
    elim c.else-peer-lt8.branch [
      | else-peer-lt8-via-then-peer-lt8+else-self-peer-gt0 w ↦ omega arith
      | else-peer-lt8-via-else-peer-lt8 w ↦ get_or_past c.args.self.now.unspent c.args.delivery.now.peer 0 (let peer_states = after.peer_states in let far = w.if-peer-lt8.false in omega arith)
    ]
    ) refl refl refl log_step) c.push-else-peer-lt8.ensures
