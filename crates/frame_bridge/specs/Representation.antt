-- The view of a bridge's fields.
use Rattle.std.specs.Prelude.{◌≤◌, length}
use Rattle.frame_bridge.specs.declared.learning.Bridge.TheInside.{Inside}
use Rattle.frame_bridge.specs.BridgeView.{View}
use Rattle.frame_bridge.specs.Forwarding.{most_known}

abbrev pub bridge_view_of : Inside → View
bridge_view_of i = record { ports = i.ports; table = i.table.entries }

pub record IsWellFormed (i : Inside) : Type 0 where
  pub least : 2 ≤ i.ports
  pub most : i.ports ≤ 8
  pub few : length i.table.entries ≤ most_known
