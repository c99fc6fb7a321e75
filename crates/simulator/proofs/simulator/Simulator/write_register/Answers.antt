use Rattle.std.proofs.Common.{sym, subst, ◌∙◌, ap₂}
use Rattle.std.specs.Prelude.{OnOk}
use Rattle.split_ring.specs.declared.steps.Access.TheVariants.{Ring}
use Rattle.lawful_history.specs.Schedule.{Event, RegionAccessed}
use Rattle.simulator.specs.Simulator.{Happens}
use Rattle.simulator.proofs.OneMoreEvent.{is_reached, is_set, is_rung}
use Rattle.simulator.proofs.simulator.Simulator.write_register.Goals as goal

pub returns-else-offset-eq-REGISTER_DOORBELL : goal.returns-else-offset-eq-REGISTER_DOORBELL
returns-else-offset-eq-REGISTER_DOORBELL c =
    subst (λ (e : Event). OnOk c.write_other_register.result (Happens e c.args.self.now c.write_other_register.new.self))
    (sym (is_reached c.args.peer c.args.offset c.args.value c.if-offset-eq-REGISTER_STATE.false c.if-offset-eq-REGISTER_DOORBELL.false)) c.write_other_register.ensures

pub returns-then-offset-eq-REGISTER_STATE : goal.returns-then-offset-eq-REGISTER_STATE
returns-then-offset-eq-REGISTER_STATE c =
    subst (λ (e : Event). OnOk c.set.result (Happens e c.args.self.now c.set.new.self))
    (sym (is_set c.args.peer c.args.offset c.args.value c.if-offset-eq-REGISTER_STATE.true)) c.set.ensures

pub returns-then-offset-eq-REGISTER_DOORBELL : goal.returns-then-offset-eq-REGISTER_DOORBELL
returns-then-offset-eq-REGISTER_DOORBELL c =
    subst (λ (e : Event). OnOk c.ring.result (Happens e c.args.self.now c.ring.new.self))
    (ap₂ (λ target vector. RegionAccessed c.args.peer (Ring target vector)) c.doorbell_target.ensures c.doorbell_vector.ensures
    ∙ sym (is_rung c.args.peer c.args.offset c.args.value c.if-offset-eq-REGISTER_DOORBELL.true)) c.ring.ensures
