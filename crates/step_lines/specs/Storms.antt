-- A storm in a world.
use Rattle.std.specs.Prelude.{◌≡◌, ℕ, ◌*◌, ◌<◌, []}
use Rattle.section_map.specs.Geometry.{IsShape}
use Rattle.section_map.specs.MayWrite.{InSection}
use Rattle.split_ring.specs.Layout.{IsQueue}
use Rattle.split_ring.specs.declared.steps.Access.{Access}
use Rattle.split_ring.specs.declared.steps.Access.TheVariants as access
use Rattle.scenario_text.specs.Scenario.{World}
use Rattle.call_grammar.specs.Steps.{Step, step_of}
use Rattle.step_lines.specs.declared.storm.Storm.{Storm}

-- The sizes that the storm draws from are those of the world, and its peer is one of the world.
pub record IsStormOf (world : World) (storm : Storm) : Type 0 where
  pub shape : IsShape world.geometry
  pub sizes : IsQueue world.queue
  pub out : world.queue.out ≡ 4 * world.geometry.out
  pub there : storm.peer < world.geometry.peers
  pub geometry : storm.geometry ≡ world.geometry
  pub queue : storm.queue ≡ world.queue

-- The accesses of a storm: a write of a word of the peer's output section, a write of State, or a
-- doorbell. A storm reads nothing.
abbrev pub IsDrawn : World → ℕ → Access → Type 0
IsDrawn world p (access.Read word) = ⊥
IsDrawn world p (access.Write word value) = InSection world.geometry p word
IsDrawn world p (access.State state) = Unit {0}
IsDrawn world p (access.Ring target vector) = Unit {0}
IsDrawn world p access.Nothing = ⊥

-- The access is that of this step of a peer's storm.
pub record DrawsIn (world : World) (p : ℕ) (step : Step) (a : Access) : Type 0 where
  pub is : step ≡ step_of a 0 []
  pub drawn : IsDrawn world p a
