use Rattle.std.proofs.Common.{◌<◌, sym, subst, List, ◌∷◌, ◌∙◌}
use Rattle.std.proofs.lemmas.List.{with_items_is}
use Rattle.doorbell_irq.specs.DeviceView.{DeviceView}
use Rattle.doorbell_irq.specs.Peer.{Registers}
use Rattle.doorbell_irq.specs.Events.{RegisterWritten, doorbell_register}
use Rattle.doorbell_irq.specs.Refinement.{Refines, among}
use Rattle.ivshm_device.proofs.peer_devices.PeerDevices.ring.Goals as goal

pub returns-clause-effect : goal.returns-clause-effect
returns-clause-effect c source inside w events refines = c.ring.ensures.effect source (subst (λ (d : DeviceView). source < d.peers) (sym c.self.view_is) inside) w events
    (subst (λ (rs : List Registers). Refines w events (among c.self.inside.peers c.self.inside.wiring rs)) (sym c.deref_mut.ensures.value)
    (subst (Refines w events) (sym c.self.view_is) refines))

pub returns-clause-refines : goal.returns-clause-refines
returns-clause-refines c source inside w events refines =
    subst (λ (rs : List Registers). Refines w (RegisterWritten source doorbell_register c.args.word ∷ events) (among c.self.inside.peers c.self.inside.wiring rs))
    (sym (with_items_is c.self.inside.registers c.ring.new.registers (c.ring.ensures.count ∙ c.deref_mut.ensures.len)))
    (c.ring.ensures.refines source (subst (λ (d : DeviceView). source < d.peers) (sym c.self.view_is) inside) w events
    (subst (λ (rs : List Registers). Refines w events (among c.self.inside.peers c.self.inside.wiring rs)) (sym c.deref_mut.ensures.value)
    (subst (Refines w events) (sym c.self.view_is) refines)))
