use Rattle.std.proofs.Common.{List, None, refl, ap, ◌∙◌}
use Rattle.doorbell_irq.specs.DeviceView.{DeviceView}
use Rattle.doorbell_irq.specs.Refinement.{among}
use Rattle.doorbell_irq.specs.declared.effect.Delivery.{Delivery}
use Rattle.doorbell_irq.proofs.Doorbells.{rung, rung_refines}
use Rattle.doorbell_irq.proofs.peers.ring.Goals as goal

pub returns-clause-effect : goal.returns-clause-effect
returns-clause-effect g c source inside w events refines =
    let d : DeviceView = among c.args.peers c.args.wiring c.args.registers.now in
    ap (λ (items : List Delivery). record { state = None; deliveries = record { items = items } })
    (c.deliver_at.ensures.came
    ∙ rung w events source c.args.word d c.requires.sound refines inside c.doorbell_target.result c.doorbell_vector.result c.doorbell_target.ensures c.doorbell_vector.ensures)

pub returns-clause-refines : goal.returns-clause-refines
returns-clause-refines g c source inside w events refines =
    let d : DeviceView = among c.args.peers c.args.wiring c.args.registers.now in
    rung_refines w events source c.args.word d c.requires.sound refines inside c.doorbell_target.result c.doorbell_vector.result c.doorbell_target.ensures c.doorbell_vector.ensures
    _ refl refl c.deliver_at.auto.registers c.deliver_at.ensures.takes
