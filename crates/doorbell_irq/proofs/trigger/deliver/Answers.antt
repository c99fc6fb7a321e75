use Rattle.std.proofs.Common.{◌∙◌, ap, sym, subst, arith}
use Rattle.doorbell_irq.specs.Triggers.{vector_at, delivery_among, TakesBelow}
use Rattle.doorbell_irq.proofs.NoDelivery.{quiet, no_more}
use Rattle.doorbell_irq.proofs.trigger.deliver.Goals as goal

pub returns-in-Nobody-clause-came : goal.returns-in-Nobody-clause-came
returns-in-Nobody-clause-came g c =
    c.new.ensures ∙ no_more (delivery_among c.args.wiring c.args.trigger c.args.registers.now) 0 c.args.peers (omega arith)
    (λ p from to. quiet c.args.wiring c.args.trigger c.args.registers.now p (ap (λ trigger. vector_at trigger p) c.in-Nobody.is))

pub returns-in-At-clause-takes : goal.returns-in-At-clause-takes
returns-in-At-clause-takes g c =
    subst (λ trigger. TakesBelow c.args.peers c.args.wiring trigger c.args.registers.now c.deliver_at.new.registers) (sym c.in-At.is) c.deliver_at.ensures.takes

pub returns-in-Others-clause-takes : goal.returns-in-Others-clause-takes
returns-in-Others-clause-takes g c =
    subst (λ trigger. TakesBelow c.args.peers c.args.wiring trigger c.args.registers.now c.deliver_to_others.new.registers) (sym c.in-Others.is) c.deliver_to_others.ensures.takes
