-- The permitted events of a world.
use Rattle.std.specs.Prelude.{◌<◌}
use Rattle.scenario_text.specs.Scenario.{World}
use Rattle.call_grammar.specs.Permitted.{IsPermittedCall}
use Rattle.lawful_history.specs.Sides.{config_of}
use Rattle.lawful_history.specs.Schedule.{Event, CallQueued, event_peer}

-- The event is of a peer of the world, and its call is permitted.
abbrev pub IsPermittedEvent : World → Event → Type 0
IsPermittedEvent world (CallQueued p call) = (p < world.geometry.peers) × IsPermittedCall (config_of world p) call
IsPermittedEvent world event = event_peer event < world.geometry.peers
