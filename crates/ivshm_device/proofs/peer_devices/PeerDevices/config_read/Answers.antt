use Rattle.std.proofs.Common.{sym, subst, List}
use Rattle.doorbell_irq.specs.Peer.{Registers}
use Rattle.doorbell_irq.specs.Refinement.{Refines, among}
use Rattle.ivshm_device.proofs.peer_devices.PeerDevices.config_read.Goals as goal

pub returns-clause-value : goal.returns-clause-value
returns-clause-value c w events refines = c.config_read.ensures.value w events
    (subst (λ (rs : List Registers). Refines w events (among c.self.inside.peers c.self.inside.wiring rs)) (sym c.deref.ensures.value)
    (subst (Refines w events) (sym c.self.view_is) refines))
