-- The content of a scenario's world, and a link peer and the other link peer in it.
use Rattle.std.specs.Prelude.{ℕ, ◌==◌, if◌then◌else◌}
use Rattle.section_map.specs.Geometry.{section_start}
use Rattle.scenario_text.specs.Scenario.{World}
use Rattle.call_grammar.specs.Calls.{EndConfig}
pub use Rattle.scenario_text.specs.Scenario.{traffic_vector}
pub use Rattle.scenario_text.specs.Spelling.{world_of}

-- Peers 0 and 1 are the two ends of the link (profile).
abbrev pub partner : ℕ → ℕ
partner peer = if peer == 0 then 1 else 0

-- The configuration of a peer of the scenario.
abbrev pub config_of : World → ℕ → EndConfig
config_of world peer = record {
  me = peer;
  other = partner peer;
  own = section_start world.geometry peer;
  other_start = section_start world.geometry (partner peer);
  words = world.geometry.out;
  sizes = world.queue;
  vector = traffic_vector world.wiring;
}
