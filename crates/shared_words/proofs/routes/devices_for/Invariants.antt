use Rattle.std.proofs.Common.{◌≡◌, take}
use Rattle.doorbell_irq.specs.Refinement.{Refines, peer_count}
use Rattle.lawful_history.specs.Device.{devices_of}
use Rattle.scenario_text.specs.Spelling.{world_of}
use Rattle.shared_words.specs.PeerRoutes.{events_of}
use Rattle.shared_words.proofs.routes.devices_for.Given as goal

-- The devices after the acts so far.
abbrev pub invariant-loop-act : goal.invariant-loop-act
invariant-loop-act l = Refines (devices_of (world_of l.scenario)) (events_of (take l.act-index l.scenario.acts)) l.device × (peer_count l.device ≡ l.scenario.geometry.peers)
