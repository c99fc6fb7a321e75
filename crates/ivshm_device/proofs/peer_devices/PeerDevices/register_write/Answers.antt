use Rattle.std.proofs.Common.{sym, subst, List, ◌∷◌, ◌∙◌}
use Rattle.std.proofs.lemmas.List.{with_items_is}
use Rattle.doorbell_irq.specs.Peer.{Registers}
use Rattle.doorbell_irq.specs.Events.{RegisterWritten}
use Rattle.doorbell_irq.specs.Refinement.{Refines, among}
use Rattle.ivshm_device.proofs.peer_devices.PeerDevices.register_write.Goals as goal

pub returns-clause-effect : goal.returns-clause-effect
returns-clause-effect c w events refines = c.register_write.ensures.effect w events
    (subst (λ (rs : List Registers). Refines w events (among c.self.inside.peers c.self.inside.wiring rs)) (sym c.deref_mut.ensures.value)
    (subst (Refines w events) (sym c.self.view_is) refines))

pub returns-clause-refines : goal.returns-clause-refines
returns-clause-refines c w events refines =
    subst (λ (rs : List Registers). Refines w (RegisterWritten c.args.peer c.args.offset c.args.value ∷ events) (among c.self.inside.peers c.self.inside.wiring rs))
    (sym (with_items_is c.self.inside.registers c.register_write.new.registers (c.register_write.ensures.count ∙ c.deref_mut.ensures.len)))
    (c.register_write.ensures.refines w events
    (subst (λ (rs : List Registers). Refines w events (among c.self.inside.peers c.self.inside.wiring rs)) (sym c.deref_mut.ensures.value)
    (subst (Refines w events) (sym c.self.view_is) refines)))
