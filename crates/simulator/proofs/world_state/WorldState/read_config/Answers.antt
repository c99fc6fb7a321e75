use Rattle.std.proofs.Common.{ℕ, ◌∷◌, refl, subst}
use Rattle.lawful_history.specs.declared.line.Line.TheVariants.{ConfigRead}
use Rattle.lawful_history.specs.Device.{devices_of, device_events}
use Rattle.simulator.specs.WorldState.{WorldStateAfter}
use Rattle.simulator.specs.declared.world_state.WorldState.{WorldState}
use Rattle.simulator.proofs.InterruptLines.{remarked}
use Rattle.std.proofs.lemmas.Result.{on_ok_weaker}
use Rattle.simulator.proofs.world_state.WorldState.read_config.Goals as goal

pub returns-clause-after : goal.returns-clause-after
returns-clause-after c = λ world output past losses after.
    let now : WorldState = record { region = c.args.self.now.region; device = c.args.self.now.device; unspent = c.args.self.now.unspent; log = c.push.new.self } in
    on_ok_weaker c.push.result (λ put. subst (λ (v : ℕ). WorldStateAfter world output (ConfigRead c.args.me c.args.offset c.args.width v ∷ past) losses now) (c.in-Ok.ensures.value (devices_of world) (device_events past) (rw c.deref.ensures after.devices))
    (remarked world output past losses c.args.self.now now (ConfigRead c.args.me c.args.offset c.args.width c.in-Ok.value) after (record { touch = refl; recorded = refl; lost = λ p. refl; frame = refl }) refl refl refl put))
    c.push.ensures
