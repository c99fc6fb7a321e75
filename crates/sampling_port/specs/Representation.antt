-- The view of a port's fields.
use Rattle.std.specs.Prelude.{◌≡◌, ◌≤◌, take, vec_len}
use Rattle.sampling_port.specs.Views.{PortView, IsPort}
use Rattle.sampling_port.specs.declared.port.Port.TheInside.{Inside}

-- The view: the message in hand and the message got last are prefixes of their buffers.
abbrev pub port_view_of : Inside → PortView
port_view_of a = record {
  shape = a.geometry;
  me = a.me;
  most = a.most;
  published = a.published;
  lasts = a.lasts;
  place = a.place;
  hand = take a.filled a.hand.items;
  message = take a.received a.message.items;
}

-- Both buffers have the length of the longest message.
pub record IsWellFormed (a : Inside) : Type 0 where
  pub port : IsPort (port_view_of a)
  pub hand : vec_len a.hand ≡ a.most
  pub message : vec_len a.message ≡ a.most
  pub filled : a.filled ≤ a.most
  pub received : a.received ≤ a.most
