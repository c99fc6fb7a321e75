use Rattle.std.proofs.Common.{◌≡◌, ℕ, ◌<◌, length}
use Rattle.doorbell_irq.specs.Routes.{IsRoute}
use Rattle.lawful_history.specs.Device.{devices_of}
use Rattle.scenario_text.specs.Spelling.{world_of}
use Rattle.shared_words.specs.PeerRoutes.{events_of, route_to}
use Rattle.shared_words.proofs.routes.routes_of.Given as goal

-- The routes so far.
abbrev pub invariant-loop-peer : goal.invariant-loop-peer
invariant-loop-peer l = (length l.routes.items ≡ l.peer) × ((p : ℕ) → p < l.peer → IsRoute (devices_of (world_of l.scenario)) (events_of l.scenario.acts) p (route_to l.routes.items p))
