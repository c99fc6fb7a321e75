-- The parts of a scenario on which the rule of a table depends: its sizes, its wiring, its honest
-- link peers, and the peers' interrupts.
use Rattle.std.specs.Prelude.{◌≡◌, ℕ, ◌*◌, ◌<◌, ◌≤◌, ◌==◌, if◌then◌else◌, Bool, false, []}
use Rattle.section_map.specs.Geometry.{IsShape, section_start}
use Rattle.split_ring.specs.Layout.{IsQueue}
use Rattle.scenario_text.specs.Scenario.{World, is_link}
use Rattle.call_grammar.specs.Calls.{EndConfig}
use Rattle.doorbell_irq.specs.DeviceRules.{is_enabled, is_one_shot, bytes_after}
use Rattle.lawful_history.specs.Device.{devices_of}
use Rattle.lawful_history.specs.Sides.{traffic_vector, config_of}
use Rattle.link_invariant.specs.LinkConfig.{LinkConfig}
use Rattle.shared_words.specs.declared.run_setup.RunSetup.{RunSetup}
use Rattle.shared_words.specs.Interrupts.{flag_of}
use Rattle.shared_words.specs.PeerRoutes.{events_of}

-- A world of these sizes without acts, of the version of its queue, and a peer of it as the call
-- grammar sees it.
abbrev pub world_in : RunSetup → World
world_in key = record { version = key.queue.version; geometry = key.geometry; queue = key.queue; wiring = key.wiring; honest = []; acts = [] }

abbrev pub config_in : RunSetup → ℕ → EndConfig
config_in key p = config_of (world_in key) p

-- The configuration of the link.
abbrev pub link_config_of : RunSetup → LinkConfig
link_config_of key = record { first = section_start key.geometry 0; words = key.geometry.out; sizes = key.queue; vector = traffic_vector key.wiring }

-- Whether this is an honest peer of the link.
abbrev pub honest_of : RunSetup → ℕ → Bool
honest_of key p = if p == 0 then key.first_is_honest else (if p == 1 then key.second_is_honest else false)

-- Its sizes are those of a region with at most eight peers, and of queues in its output sections.
pub record IsFit (key : RunSetup) : Type 0 where
  pub shape : IsShape key.geometry
  pub queue : IsQueue key.queue
  pub out : key.queue.out ≡ 4 * key.geometry.out
  pub few : key.geometry.peers ≤ 8

-- It was made for this scenario.
pub record IsMadeFor (world : World) (key : RunSetup) : Type 0 where
  pub geometry : key.geometry ≡ world.geometry
  pub queue : key.queue ≡ world.queue
  pub wiring : key.wiring ≡ world.wiring
  pub honest : (p : ℕ) → honest_of key p ≡ is_link world p
  pub enabled : (p : ℕ) → p < world.geometry.peers → flag_of key.enabled p ≡ is_enabled (bytes_after (devices_of world) (events_of world.acts) p)
  pub one_shot : (p : ℕ) → p < world.geometry.peers → flag_of key.one_shot p ≡ is_one_shot (bytes_after (devices_of world) (events_of world.acts) p)
