use Rattle.std.proofs.Common.{refl}
use Rattle.lawful_history.specs.Device.{devices_of, device_events}
use Rattle.lawful_history.specs.declared.line.Line.TheVariants.{MsixWrite}
use Rattle.simulator.proofs.InterruptLines.{recorded_after}
use Rattle.std.proofs.lemmas.Result.{on_ok_weaker}
use Rattle.simulator.proofs.world_state.WorldState.write_msix.Goals as goal

pub returns-clause-after : goal.returns-clause-after
returns-clause-after c = λ world output past losses after.
    on_ok_weaker c.push.result (λ put. recorded_after world output past losses c.args.self.now _ (MsixWrite c.args.me c.args.offset c.args.value) _ after refl (λ p. refl) refl after.words refl (c.msix_write.ensures.refines (devices_of world) (device_events past) (rw c.deref_mut.ensures.value after.devices)) refl put)
    c.push.ensures
