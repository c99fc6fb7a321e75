use Rattle.std.proofs.Common.{sym, subst, List, ◌∷◌, ◌∙◌}
use Rattle.std.proofs.lemmas.List.{with_items_is}
use Rattle.std.specs.Prelude.{OnOk}
use Rattle.doorbell_irq.specs.Peer.{Registers}
use Rattle.doorbell_irq.specs.Events.{ConfigWritten}
use Rattle.doorbell_irq.specs.Refinement.{Refines, among}
use Rattle.ivshm_device.proofs.peer_devices.PeerDevices.config_write.Goals as goal

pub returns-clause-written : goal.returns-clause-written
returns-clause-written c w events refines =
    subst (λ (rs : List Registers). OnOk c.config_write.result (Refines w (ConfigWritten c.args.peer c.args.offset c.args.width c.args.value ∷ events) (among c.self.inside.peers c.self.inside.wiring rs)))
    (sym (with_items_is c.self.inside.registers c.config_write.new.registers (c.config_write.ensures.count ∙ c.deref_mut.ensures.len)))
    (c.config_write.ensures.written w events
    (subst (λ (rs : List Registers). Refines w events (among c.self.inside.peers c.self.inside.wiring rs)) (sym c.deref_mut.ensures.value)
    (subst (Refines w events) (sym c.self.view_is) refines)))
