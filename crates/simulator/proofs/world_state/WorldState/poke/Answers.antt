use Rattle.std.proofs.Common.{refl}
use Rattle.std.proofs.lemmas.Result.{on_ok_weaker}
use Rattle.simulator.proofs.Poking.{poke_writes, poke_denied}
use Rattle.simulator.proofs.world_state.WorldState.poke.Goals as goal

pub returns-in-Ok-clause-after : goal.returns-in-Ok-clause-after
returns-in-Ok-clause-after c = λ world output past losses after.
    on_ok_weaker c.push.result (λ log_step. poke_writes world output past losses c.args.self.now _ c.args.me c.args.word c.args.value after c.in-Ok.ensures.allowed c.in-Ok.ensures.written refl refl log_step) c.push.ensures

pub returns-in-Err-clause-after : goal.returns-in-Err-clause-after
returns-in-Err-clause-after c = λ world output past losses after.
    on_ok_weaker c.push-in-Err.result (λ log_step. poke_denied world output past losses c.args.self.now _ c.args.me c.args.word c.args.value after c.in-Err.ensures.denied.0 c.in-Err.ensures.unchanged refl refl log_step) c.push-in-Err.ensures
