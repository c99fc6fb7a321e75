-- The parts of a scenario.
use Rattle.scenario_text.specs.Scenario.{World}
use Rattle.link_model.specs.declared.copying.ScenarioParts.{ScenarioParts}

-- The world that the parts say.
abbrev pub world_of_parts : ScenarioParts → World
world_of_parts p = record { version = p.version; geometry = p.geometry; queue = p.queue; wiring = p.wiring; honest = p.honest; acts = p.acts }
