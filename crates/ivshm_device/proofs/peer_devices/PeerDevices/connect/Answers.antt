use Rattle.std.proofs.Common.{sym, subst, List, ◌∷◌, ◌∙◌}
use Rattle.std.proofs.lemmas.List.{with_items_is}
use Rattle.doorbell_irq.specs.Peer.{Registers}
use Rattle.doorbell_irq.specs.Events.{WasConnected}
use Rattle.doorbell_irq.specs.Refinement.{Refines, among}
use Rattle.ivshm_device.proofs.peer_devices.PeerDevices.connect.Goals as goal

pub returns : goal.returns
returns c w events refines =
    subst (λ (rs : List Registers). Refines w (WasConnected c.args.peer ∷ events) (among c.self.inside.peers c.self.inside.wiring rs))
    (sym (with_items_is c.self.inside.registers c.connect.new.registers (c.connect.ensures.count ∙ c.deref_mut.ensures.len)))
    (c.connect.ensures.refines w events
    (subst (λ (rs : List Registers). Refines w events (among c.self.inside.peers c.self.inside.wiring rs)) (sym c.deref_mut.ensures.value)
    (subst (Refines w events) (sym c.self.view_is) refines)))
