use Rattle.std.proofs.Common.{◌∙◌, ap, sym, arith}
use Rattle.doorbell_irq.specs.DeviceRules.{delivery_to}
use Rattle.doorbell_irq.proofs.OneTarget.{stranger_came, target_takes, target_came}
use Rattle.doorbell_irq.proofs.Lists.{slice_get-set_other}
use Rattle.doorbell_irq.proofs.trigger.deliver_at.Goals as goal

pub returns-then-target-peers-clause-came : goal.returns-then-target-peers-clause-came
returns-then-target-peers-clause-came g c = stranger_came c.args.wiring c.args.target c.args.vector c.args.registers.now c.args.peers c.if-target-peers.true

pub returns-in-Some-clause-takes : goal.returns-in-Some-clause-takes
returns-in-Some-clause-takes g c =
    target_takes c.args.wiring c.args.target c.args.vector c.args.registers.now c.index-registers-target.result (omega arith) c.args.peers c.take-taken.new.self c.take-taken.ensures.takes

pub returns-in-Some-clause-came : goal.returns-in-Some-clause-came
returns-in-Some-clause-came g c =
    ap (delivery_to c.args.target) (sym c.in-Some.is)
    ∙ target_came c.args.wiring c.args.target c.args.vector c.args.registers.now c.index-registers-target.result (omega arith) c.args.peers c.take-taken.result (omega arith) c.take-taken.ensures.gives

pub returns-in-None-clause-takes : goal.returns-in-None-clause-takes
returns-in-None-clause-takes g c =
    target_takes c.args.wiring c.args.target c.args.vector c.args.registers.now c.index-registers-target.result (omega arith) c.args.peers c.take-taken.new.self c.take-taken.ensures.takes

pub returns-in-None-clause-came : goal.returns-in-None-clause-came
returns-in-None-clause-came g c =
    ap (delivery_to c.args.target) (sym c.in-None.is)
    ∙ target_came c.args.wiring c.args.target c.args.vector c.args.registers.now c.index-registers-target.result (omega arith) c.args.peers c.take-taken.result (omega arith) c.take-taken.ensures.gives

pub returns-in-Some-clause-past : goal.returns-in-Some-clause-past
returns-in-Some-clause-past g c place past =
    slice_get-set_other c.args.registers.now c.args.target place c.take-taken.new.self (λ same. omega arith)

pub returns-in-None-clause-past : goal.returns-in-None-clause-past
returns-in-None-clause-past g c place past =
    slice_get-set_other c.args.registers.now c.args.target place c.take-taken.new.self (λ same. omega arith)
