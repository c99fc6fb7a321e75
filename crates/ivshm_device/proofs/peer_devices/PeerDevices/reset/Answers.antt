use Rattle.std.proofs.Common.{sym, subst, List, ◌∷◌, ◌∙◌}
use Rattle.std.proofs.lemmas.List.{with_items_is}
use Rattle.doorbell_irq.specs.Peer.{Registers}
use Rattle.doorbell_irq.specs.Events.{WasReset}
use Rattle.doorbell_irq.specs.Refinement.{Refines, among}
use Rattle.ivshm_device.proofs.peer_devices.PeerDevices.reset.Goals as goal

pub returns-clause-effect : goal.returns-clause-effect
returns-clause-effect c w events refines = c.reset.ensures.effect w events
    (subst (λ (rs : List Registers). Refines w events (among c.self.inside.peers c.self.inside.wiring rs)) (sym c.deref_mut.ensures.value)
    (subst (Refines w events) (sym c.self.view_is) refines))

pub returns-clause-refines : goal.returns-clause-refines
returns-clause-refines c w events refines =
    subst (λ (rs : List Registers). Refines w (WasReset c.args.peer ∷ events) (among c.self.inside.peers c.self.inside.wiring rs))
    (sym (with_items_is c.self.inside.registers c.reset.new.registers (c.reset.ensures.count ∙ c.deref_mut.ensures.len)))
    (c.reset.ensures.refines w events
    (subst (λ (rs : List Registers). Refines w events (among c.self.inside.peers c.self.inside.wiring rs)) (sym c.deref_mut.ensures.value)
    (subst (Refines w events) (sym c.self.view_is) refines)))
