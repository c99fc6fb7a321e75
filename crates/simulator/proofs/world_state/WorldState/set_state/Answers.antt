use Rattle.std.proofs.Common.{List, ◌∷◌, ap, refl, ◌∙◌}
use Rattle.std.specs.Prelude.{OnOk}
use Rattle.lawful_history.specs.declared.line.Line.{Line}
use Rattle.lawful_history.specs.declared.line.Line.TheVariants.{State}
use Rattle.lawful_history.specs.Device.{devices_of, device_events, device_event_of}
use Rattle.simulator.specs.WorldState.{WorldStateAfter, BringsBy, with_state}
use Rattle.simulator.proofs.InterruptLines.{recorded_after, come_after, state_words}
use Rattle.simulator.proofs.world_state.WorldState.set_state.Goals as goal

pub returns-clause-after : goal.returns-clause-after
returns-clause-after c = λ world output past losses after.
    let line = State c.args.me c.args.value in
    let effect = c.register_write-effect.ensures.effect (devices_of world) (device_events past) (rw c.deref_mut.ensures.value after.devices) in
    let region = c.record_line.ensures.region ∙ ap (λ e. with_state c.args.self.now.region c.args.me e.state) effect in
    let recorded = recorded_after world output past losses c.args.self.now c.record_line.new.self line _ after refl (λ p. refl) refl
    (rw region (state_words c.args.self.now.region.words past c.args.me c.args.value after.words))
    (ap (λ r. r.shape) region) (rw c.record_line.ensures.device (c.register_write-effect.ensures.refines (devices_of world) (device_events past) (rw c.deref_mut.ensures.value after.devices)))
    c.record_line.ensures.unspent c.in_ok-deliveries.ensures.log in
    let brings : BringsBy world past (device_event_of line) c.as_slice.result.now =
    c.as_slice.ensures.value ∙ ap (λ ds. ds.items) c.in_ok-deliveries.ensures.deliveries ∙ ap (λ e. e.deliveries.items) effect in
    come_after (λ (ls : List Line). OnOk c.arrive.result (WorldStateAfter world output ls losses c.arrive.new.self)) world past losses line (device_event_of line) c.as_slice.result.now brings
    (c.arrive.ensures.after world output (line ∷ past) losses recorded)
