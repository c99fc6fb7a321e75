-- The property of being a schedule of ports has at most one proof.
use Rattle.std.proofs.Props.{props}
use mathlib.Core.List.{is_set}
use Rattle.scenario_text.specs.Props.{Fit-prop, FitBytes-prop}
use Rattle.port_text.specs.Scenario.{World, IsWorld}

pub IsWorld-prop : (w : World) → IsProp (IsWorld w)
IsWorld-prop w = hlevel (props, is_set, Fit-prop, FitBytes-prop)
