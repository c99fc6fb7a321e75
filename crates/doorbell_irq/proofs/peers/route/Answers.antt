use Rattle.std.proofs.Common.{◌<◌, ◌≤◌, length, ◌∙◌, ap, sym, subst}
use Rattle.doorbell_irq.specs.DeviceView.{DeviceView}
use Rattle.doorbell_irq.specs.Refinement.{Refines, among}
use Rattle.doorbell_irq.specs.Events.{vector_count}
use Rattle.doorbell_irq.specs.DeviceRules.{is_connected, bytes_after}
use Rattle.doorbell_irq.specs.Routes.{would_be_delivered, is_intx}
use Rattle.doorbell_irq.proofs.RegistersOfPeer.{enabled_same, one_shot_same}
use Rattle.doorbell_irq.proofs.RouteRules.{comes_same}
use Rattle.doorbell_irq.proofs.Devices.{peer_read}
use Rattle.doorbell_irq.proofs.peers.route.Goals as goal

pub returns : goal.returns
returns g c w events refines =
    let d : DeviceView = among c.args.peers c.args.wiring c.args.registers.now in
    let was : Refines w events d = refines in
    let below : c.args.peer < d.peers = c.requires.inside in
    let is = peer_read w events d was c.args.peer _ below c.index-registers-peer.is in
    record {
      vectors = λ n within. c.route.ensures.vectors n within ∙ comes_same w events c.args.peer _ is d.wiring (subst (λ wiring. vector_count wiring ≤ length c.index-registers-peer.result.entries) (sym was.wiring) is.count) n
          ∙ ap (λ wiring. would_be_delivered wiring (is_connected events c.args.peer) (bytes_after w events c.args.peer) n) was.wiring;
      intx = c.route.ensures.intx ∙ ap is_intx was.wiring;
      one_shot = c.route.ensures.one_shot ∙ one_shot_same w events c.args.peer _ is;
      enabled = c.route.ensures.enabled ∙ enabled_same w events c.args.peer _ is;
    }
