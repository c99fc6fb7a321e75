use Rattle.std.proofs.Common.{◌∷◌, [], rules, List, sym, ap, ◌∙◌, subst, arith, length, length-append}
use Rattle.scenario_text.specs.Spelling.{world_of}
use Rattle.doorbell_irq.specs.declared.route.Route.{Route}
use Rattle.doorbell_irq.specs.Routes.{IsRoute}
use Rattle.lawful_history.specs.Device.{devices_of}
use Rattle.shared_words.specs.PeerRoutes.{events_of, route_to}
use Rattle.shared_words.proofs.ScenarioRoutes.{routed_more}
use Rattle.shared_words.proofs.routes.routes_of.Goals as goal

pub loop-peer-init : goal.loop-peer-init
loop-peer-init c = (ap length c.new-routes.ensures, λ p lt. absurd (omega arith))

pub loop-peer-preserved : goal.loop-peer-preserved
loop-peer-preserved c = let w = world_of c.args.scenario.now in let route = c.route.result in let inv = c.loop-peer.invariant in let more = c.push.ensures.items in (
  ap length more ∙ (let h = length-append c.loop-peer.routes.items (route ∷ []) in let was = inv.0 in omega arith),
  λ p lt. subst (λ (rs : List Route). IsRoute (devices_of w) (events_of w.acts) p (route_to rs p)) (sym more) (routed_more w c.loop-peer.routes.items route c.loop-peer.peer p inv.0 lt inv.1 (c.route.ensures _ _ c.devices_for-device.ensures.refines)),
)

pub returns : goal.returns
returns c = let all = c.peers-peer-end.ensures in record { count = c.loop-peer.invariant.0 ∙ (search rules); each = λ p lt. c.loop-peer.invariant.1 p (omega arith) }
